-- The objects and the pages of a commit, as lists.
use Rattle.std.proofs.Common.{◌≡◌, ℕ, zero, suc, ◌+◌, ◌-◌, ◌/◌, ◌<◌, ◌≤◌, Bool, true, false, cond, eqb, ◌||◌, List, [], ◌∷◌, ◌++◌, length, map, refl, ap, ap₂, sym, ◌∙◌, arith, append-nil}
use Rattle.std.specs.List.{AllByRecursion, flat_map}
use Rattle.std.proofs.lemmas.List.{append_assoc}
use Rattle.std.proofs.lemmas.List.Concat.{flat_map-cons}
use Rattle.nv_base.specs.declared.ids.ObjId.{ObjId}
use Rattle.kernel_model.specs.Effects.{Write}
use Rattle.device_model.specs.Words.{Change}
use Rattle.device_model.specs.Layouts.{Layout}
use Rattle.device_model.specs.IndexWords.{Index}
use Rattle.device_model.specs.Commits.{names_slot, page_change, page_changes, writes_by}
use Rattle.commit_writer.specs.Lists.{names_object, objects_by, pages_by}

-- ---- steps of the loops that make them

none_left : (p : ℕ → Bool) (n : ℕ) → objects_by p n (n - n) ≡ []
none_left p n = let e : n - n ≡ 0 = omega arith in ap (objects_by p n) e

pub all_objects : (p : ℕ → Bool) (xs all : List ObjId) (n : ℕ) → xs ++ objects_by p n (n - n) ≡ all → xs ≡ all
all_objects p xs all n e = sym (append-nil xs) ∙ ap (λ (ys : List ObjId). xs ++ ys) (sym (none_left p n)) ∙ e

pub object_taken : (p : ℕ → Bool) (xs all : List ObjId) (o n : ℕ) → o < n → p o ≡ true → xs ++ objects_by p o (n - o) ≡ all → (xs ++ record { 0 = o } ∷ []) ++ objects_by p (o + 1) (n - (o + 1)) ≡ all
object_taken p xs all o n l t e =
    let f : n - o ≡ suc (n - (o + 1)) = omega arith in
    let x : ObjId = record { 0 = o } in
    let rest : List ObjId = objects_by p (o + 1) (n - (o + 1)) in
    append_assoc xs (x ∷ []) rest
    ∙ ap (λ (b : Bool). xs ++ cond b (x ∷ rest) rest) (sym t) ∙ ap (λ (m : ℕ). xs ++ objects_by p o m) (sym f) ∙ e

pub object_passed : (p : ℕ → Bool) (xs all : List ObjId) (o n : ℕ) → o < n → p o ≡ false → xs ++ objects_by p o (n - o) ≡ all → xs ++ objects_by p (o + 1) (n - (o + 1)) ≡ all
object_passed p xs all o n l t e =
    let f : n - o ≡ suc (n - (o + 1)) = omega arith in
    let x : ObjId = record { 0 = o } in
    let rest : List ObjId = objects_by p (o + 1) (n - (o + 1)) in
    ap (λ (b : Bool). xs ++ cond b (x ∷ rest) rest) (sym t) ∙ ap (λ (m : ℕ). xs ++ objects_by p o m) (sym f) ∙ e

-- ---- what they are

-- the writes of a commit are those of the objects
pub writes_are : (p is_written : ℕ → Bool) (words : ℕ → List ℕ) (o n : ℕ) → ((k : ℕ) → o ≤ k → k < o + n → is_written k ≡ p k)
    → map (λ (x : ObjId). let w : Write = record { object = x.0; words = words x.0 } in w) (objects_by p o n) ≡ writes_by is_written words o n
writes_are p is_written words o zero h = refl
writes_are p is_written words o (suc n) h = by (p o) (is_written o) (h o (omega arith) (omega arith)) (writes_are p is_written words (o + 1) n (λ k a b. h k (omega arith) (omega arith)))
  where
    x : ObjId
    x = record { 0 = o }

    mk : ObjId → Write
    mk x = record { object = x.0; words = words x.0 }

    by : (a b : Bool) → b ≡ a → map mk (objects_by p (o + 1) n) ≡ writes_by is_written words (o + 1) n
        → map mk (cond a (x ∷ objects_by p (o + 1) n) (objects_by p (o + 1) n)) ≡ cond b (mk x ∷ writes_by is_written words (o + 1) n) (writes_by is_written words (o + 1) n)
    by true true e r = ap (λ (ws : List Write). mk x ∷ ws) r
    by false false e r = r
    by true false e r = absurd (cc e)
    by false true e r = absurd (cc e)

-- each of them is written, and below n
pub each_written : (p : ℕ → Bool) (o n m : ℕ) → o + n ≤ m → AllByRecursion (λ (x : ObjId). (x.0 < m) × (p x.0 ≡ true)) (objects_by p o n)
each_written p o zero m l = tt
each_written p o (suc n) m l = by (p o) refl (each_written p (o + 1) n m (omega arith))
  where
    x : ObjId
    x = record { 0 = o }

    by : (a : Bool) → p o ≡ a → AllByRecursion (λ (x : ObjId). (x.0 < m) × (p x.0 ≡ true)) (objects_by p (o + 1) n) → AllByRecursion (λ (x : ObjId). (x.0 < m) × (p x.0 ≡ true)) (cond a (x ∷ objects_by p (o + 1) n) (objects_by p (o + 1) n))
    by true e r = ((omega arith, e), r)
    by false e r = r

-- the same pages hold their slot words
pub names_are : (l : Layout) (words : ℕ → List ℕ) (objects : List ObjId) (page : ℕ) → names_object l.page_words objects page ≡ names_slot l (map (λ (x : ObjId). let w : Write = record { object = x.0; words = words x.0 } in w) objects) page
names_are l words [] page = refl
names_are l words (x ∷ objects) page = ap (λ (b : Bool). eqb ((9 + x.0) / l.page_words) page || b) (names_are l words objects page)

-- ---- pages

pub pages_are : (l : Layout) (root : ℕ) (x : Index) (marks changed : ℕ → Bool) (page n : ℕ) → ((k : ℕ) → page ≤ k → k < page + n → changed k ≡ marks k) → flat_map (page_change l root x) (pages_by marks page n) ≡ page_changes l root x changed page n
pages_are l root x marks changed page zero h = refl
pages_are l root x marks changed page (suc n) h = by (marks page) (changed page) (h page (omega arith) (omega arith)) (pages_are l root x marks changed (page + 1) n (λ k a b. h k (omega arith) (omega arith)))
  where
    by : (a b : Bool) → b ≡ a → flat_map (page_change l root x) (pages_by marks (page + 1) n) ≡ page_changes l root x changed (page + 1) n
        → flat_map (page_change l root x) (cond a (page ∷ pages_by marks (page + 1) n) (pages_by marks (page + 1) n)) ≡ cond b (page_change l root x page) [] ++ page_changes l root x changed (page + 1) n
    by true true e r = flat_map-cons (page_change l root x) page (pages_by marks (page + 1) n) ∙ ap (λ (log : List Change). page_change l root x page ++ log) r
    by false false e r = r
    by true false e r = absurd (cc e)
    by false true e r = absurd (cc e)

pub each_page : (marks : ℕ → Bool) (page n m : ℕ) → page + n ≤ m → AllByRecursion (λ p. p < m) (pages_by marks page n)
each_page marks page zero m l = tt
each_page marks page (suc n) m l = by (marks page) (each_page marks (page + 1) n m (omega arith))
  where
    by : (a : Bool) → AllByRecursion (λ p. p < m) (pages_by marks (page + 1) n) → AllByRecursion (λ p. p < m) (cond a (page ∷ pages_by marks (page + 1) n) (pages_by marks (page + 1) n))
    by true r = (omega arith, r)
    by false r = r

no_page : (p : ℕ → Bool) (n : ℕ) → pages_by p n (n - n) ≡ []
no_page p n = let e : n - n ≡ 0 = omega arith in ap (pages_by p n) e

pub all_pages : (p : ℕ → Bool) (xs all : List ℕ) (n : ℕ) → xs ++ pages_by p n (n - n) ≡ all → xs ≡ all
all_pages p xs all n e = sym (append-nil xs) ∙ ap (λ (ys : List ℕ). xs ++ ys) (sym (no_page p n)) ∙ e

pub page_taken : (p : ℕ → Bool) (xs all : List ℕ) (o n : ℕ) → o < n → p o ≡ true → xs ++ pages_by p o (n - o) ≡ all → (xs ++ o ∷ []) ++ pages_by p (o + 1) (n - (o + 1)) ≡ all
page_taken p xs all o n l t e =
    let f : n - o ≡ suc (n - (o + 1)) = omega arith in
    let rest : List ℕ = pages_by p (o + 1) (n - (o + 1)) in
    append_assoc xs (o ∷ []) rest
    ∙ ap (λ (b : Bool). xs ++ cond b (o ∷ rest) rest) (sym t) ∙ ap (λ (m : ℕ). xs ++ pages_by p o m) (sym f) ∙ e

pub page_passed : (p : ℕ → Bool) (xs all : List ℕ) (o n : ℕ) → o < n → p o ≡ false → xs ++ pages_by p o (n - o) ≡ all → xs ++ pages_by p (o + 1) (n - (o + 1)) ≡ all
page_passed p xs all o n l t e =
    let f : n - o ≡ suc (n - (o + 1)) = omega arith in
    let rest : List ℕ = pages_by p (o + 1) (n - (o + 1)) in
    ap (λ (b : Bool). xs ++ cond b (o ∷ rest) rest) (sym t) ∙ ap (λ (m : ℕ). xs ++ pages_by p o m) (sym f) ∙ e

-- they rest on the marks of these pages
pub pages_same : (f g : ℕ → Bool) (page n : ℕ) → ((k : ℕ) → page ≤ k → k < page + n → f k ≡ g k) → pages_by f page n ≡ pages_by g page n
pages_same f g page zero h = refl
pages_same f g page (suc n) h = ap₂ (λ (b : Bool) (xs : List ℕ). cond b (page ∷ xs) xs) (h page (omega arith) (omega arith)) (pages_same f g (page + 1) n (λ k a b. h k (omega arith) (omega arith)))

pub some_first : (f : ℕ → Bool) (n : ℕ) → 0 < n → f 0 ≡ true → 0 < length (pages_by f 0 n)
some_first f zero l e = absurd (omega arith)
some_first f (suc n) l e = rw e (omega arith)
