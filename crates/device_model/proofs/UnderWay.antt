-- A commit that is under way.
use Rattle.std.proofs.Common.{◌≡◌, ℕ, zero, suc, ◌+◌, ◌<◌, ◌≤◌, ⊎_elim, Bool, true, false, cond, List, [], ◌∷◌, length, get_or, take, Some, None, arith, refl, ap, sym, ◌∙◌, subst}
use Rattle.std.specs.List.{AllByRecursion}
use Rattle.std.proofs.lemmas.Bool.{cases_lt, eq-eqb, ne_eqb}
use Rattle.std.proofs.lemmas.List.{take_all, take_more}
use Rattle.kernel_model.specs.Effects.{written}
use Rattle.kernel_model.specs.Fit.{IsWrite, InObjectOrder}
use Rattle.set_model.specs.Sets.{TaskSet, object_at}
use Rattle.set_model.specs.Numbers.{sizes_of}
use Rattle.device_model.specs.Words.{Words, Change, made, with_word}
use Rattle.device_model.specs.Layouts.{Layout}
use Rattle.device_model.specs.Decoding.{Held}
use Rattle.device_model.specs.Keeping.{KeepsIn}
use Rattle.device_model.specs.Places.{IsLaidOut}
use Rattle.device_model.specs.Commits.{Commit, IsNext, IsUnderWay, commit_writes, committed, writes_by}
use Rattle.device_model.proofs.Writes.{made-append}
use Rattle.device_model.proofs.Committed.{commit_prefix, commit_whole}

pub begins : (set : TaskSet) (l : Layout) (h : Held) (c : Commit) (words : Words) → IsNext set h c → KeepsIn set l h words → IsUnderWay set l h c 0 words
begins set l h c words n k = record { next = n; first = words; kept = k; made_are = refl }

pub one_more : (set : TaskSet) (l : Layout) (h : Held) (c : Commit) (count : ℕ) (words : Words) → count < length (commit_writes l set h c) → IsUnderWay set l h c count words → IsUnderWay set l h c (count + 1) (with_word (get_or (commit_writes l set h c) count (0, 0)) words)
one_more set l h c count words a u =
    let w : Change = get_or (commit_writes l set h c) count (0, 0) in
    record {
      next = u.next;
      first = u.first;
      kept = u.kept;
      made_are = ap (with_word w) u.made_are ∙ sym (ap (λ (log : List Change). made log u.first) (take_more (commit_writes l set h c) count (0, 0) a) ∙ made-append (take count (commit_writes l set h c)) (w ∷ []) u.first);
    }

pub cut : (set : TaskSet) (l : Layout) (h : Held) (c : Commit) (count : ℕ) (words : Words) → IsLaidOut set l → count < length (commit_writes l set h c) → IsUnderWay set l h c count words → KeepsIn set l h words
cut set l h c count words d a u = subst (KeepsIn set l h) (sym u.made_are) (commit_prefix set l h c u.first count d u.next u.kept a)

pub ends : (set : TaskSet) (l : Layout) (h : Held) (c : Commit) (count : ℕ) (words : Words) → IsLaidOut set l → length (commit_writes l set h c) ≤ count → IsUnderWay set l h c count words → KeepsIn set l (committed l set h c) words
ends set l h c count words d a u =
    subst (KeepsIn set l (committed l set h c)) (sym (u.made_are ∙ ap (λ (log : List Change). made log u.first) (take_all count (commit_writes l set h c) a))) (commit_whole set l h c u.first d u.next u.kept)

-- ---- writes by a test of each object

by-above : (is_written : ℕ → Bool) (words : ℕ → List ℕ) (low o n : ℕ) → low < o → AllByRecursion (λ w. low < w.object) (writes_by is_written words o n)
by-above is_written words low o zero a = tt
by-above is_written words low o (suc n) a = by (is_written o) (by-above is_written words low (o + 1) n (omega arith))
  where
    by : (b : Bool) → AllByRecursion (λ w. low < w.object) (writes_by is_written words (o + 1) n) → AllByRecursion (λ w. low < w.object) (cond b (record { object = o; words = words o } ∷ writes_by is_written words (o + 1) n) (writes_by is_written words (o + 1) n))
    by true rest = (a, rest)
    by false rest = rest

pub by-order : (is_written : ℕ → Bool) (words : ℕ → List ℕ) (o n : ℕ) → InObjectOrder (writes_by is_written words o n)
by-order is_written words o zero = tt
by-order is_written words o (suc n) = by (is_written o) (by-order is_written words (o + 1) n)
  where
    by : (b : Bool) → InObjectOrder (writes_by is_written words (o + 1) n) → InObjectOrder (cond b (record { object = o; words = words o } ∷ writes_by is_written words (o + 1) n) (writes_by is_written words (o + 1) n))
    by true rest = (by-above is_written words o (o + 1) n (omega arith), rest)
    by false rest = rest

pub by-writes : (set : TaskSet) (is_written : ℕ → Bool) (words : ℕ → List ℕ) (o n : ℕ) → o + n ≤ length set.objects → ((p : ℕ) → p < length set.objects → is_written p ≡ true → length (words p) ≡ (object_at set p).size) → AllByRecursion (IsWrite (sizes_of set)) (writes_by is_written words o n)
by-writes set is_written words o zero a h = tt
by-writes set is_written words o (suc n) a h = by (is_written o) refl (by-writes set is_written words (o + 1) n (omega arith) h)
  where
    by : (b : Bool) → is_written o ≡ b → AllByRecursion (IsWrite (sizes_of set)) (writes_by is_written words (o + 1) n) → AllByRecursion (IsWrite (sizes_of set)) (cond b (record { object = o; words = words o } ∷ writes_by is_written words (o + 1) n) (writes_by is_written words (o + 1) n))
    by true e rest = (record { object = omega arith; words = h o (omega arith) e }, rest)
    by false e rest = rest

by-none : (is_written : ℕ → Bool) (words : ℕ → List ℕ) (o n p : ℕ) → p < o → written (writes_by is_written words o n) p ≡ None
by-none is_written words o zero p a = refl
by-none is_written words o (suc n) p a = by (is_written o) (by-none is_written words (o + 1) n p (omega arith))
  where
    by : (b : Bool) → written (writes_by is_written words (o + 1) n) p ≡ None → written (cond b (record { object = o; words = words o } ∷ writes_by is_written words (o + 1) n) (writes_by is_written words (o + 1) n)) p ≡ None
    by true rest = rw (ne_eqb o p (λ e. omega arith)) rest
    by false rest = rest

pub by-written : (is_written : ℕ → Bool) (words : ℕ → List ℕ) (o n p : ℕ) → o ≤ p → p < o + n → written (writes_by is_written words o n) p ≡ cond (is_written p) (Some (words p)) None
by-written is_written words o zero p a b = absurd (omega arith)
by-written is_written words o (suc n) p a b = ⊎_elim
    (λ l. later l (is_written o) (by-written is_written words (o + 1) n p (omega arith) (omega arith)))
    (λ l. let e : o ≡ p = omega arith in here e (is_written o) refl) (cases_lt o p)
  where
    later : o < p → (b : Bool) → written (writes_by is_written words (o + 1) n) p ≡ cond (is_written p) (Some (words p)) None
        → written (cond b (record { object = o; words = words o } ∷ writes_by is_written words (o + 1) n) (writes_by is_written words (o + 1) n)) p ≡ cond (is_written p) (Some (words p)) None
    later l true rest = rw (ne_eqb o p (λ e. omega arith)) rest
    later l false rest = rest

    here : o ≡ p → (b : Bool) → is_written o ≡ b → written (cond b (record { object = o; words = words o } ∷ writes_by is_written words (o + 1) n) (writes_by is_written words (o + 1) n)) p ≡ cond (is_written p) (Some (words p)) None
    here e true f = let g : is_written p ≡ true = ap is_written (sym e) ∙ f in rw (eq-eqb o p e, g) (ap (λ (q : ℕ). Some (words q)) e)
    here e false f = let g : is_written p ≡ false = ap is_written (sym e) ∙ f in rw g (by-none is_written words (o + 1) n p (omega arith))
