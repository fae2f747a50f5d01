-- What an answer that is Ok says of the answers before it.
use Rattle.std.proofs.Common.{◌≡◌, ℕ, suc, ◌≤◌, Bool, true, false, cond, ◌||◌, List, [], ◌∷◌, length, replicate, Option, Some, None, Result, Ok, Err, ltb, eqb, refl, sym, ap, subst, ◌∙◌, arith}
use Rattle.nv_base.proofs.ForCallers.{bind_ok}
use Rattle.std.specs.List.{AllByRecursion}
use Rattle.std.proofs.lemmas.Bool.{ltb-false, eqb-true, or_parts}
use Rattle.std.proofs.lemmas.List.{length-replicate}
use Rattle.plain_text.specs.Numbers.{value_in, within}
use Rattle.plain_text.specs.declared.numbers.NumberFault.TheVariants as faults
use Rattle.script.specs.declared.refusals.ScriptCause.TheVariants as causes
use Rattle.nv_base.specs.Results.{◌>>=◌}
use Rattle.script.specs.Results.{each}
use Rattle.script.specs.Words.{allowed, number, value, by_cause}
use Rattle.script.specs.declared.keyword.Keyword.{Keyword}
use Rattle.script.specs.declared.keyword.Stage.{Stage}
use Rattle.script.specs.Keywords.{keyword_of, may_follow, stage_of}
use Rattle.script.specs.Parts.{Parts}
use Rattle.script.specs.Lines.{found, keyword_after, words_after}
use Rattle.script.specs.SetLines.{first_values}

pub refused_if : {E A : Type 0} (b : Bool) (e : E) (x y : A) → cond b (Err e) (Ok x) ≡ Ok y → (b ≡ false) × (x ≡ y)
refused_if true e x y h = absurd cc
refused_if false e x y h = (refl, cc)

pub allowed_if : {E A : Type 0} (b : Bool) (e : E) (x y : A) → cond b (Ok x) (Err e) ≡ Ok y → (b ≡ true) × (x ≡ y)
allowed_if true e x y h = (refl, cc)
allowed_if false e x y h = absurd cc

-- a number that is read is within its limits
pub number_ok : (low high n : ℕ) (word : List ℕ) → number low high word ≡ Ok n → (low ≤ n) × (n ≤ high)
number_ok low high n word h = go (value_in 10 10 word) h
  where
    test : (m : ℕ) (b : Bool) → (ltb m low || ltb high m) ≡ b → by_cause (cond b (Err faults.Range) (Ok m)) ≡ Ok n → (low ≤ n) × (n ≤ high)
    test m true e h = absurd cc
    test m false e h =
        let same : m ≡ n = cc in
        let t = or_parts (ltb m low) (ltb high m) e in
        let p = ltb-false m low t.0 in
        let q = ltb-false high m t.1 in
        (omega (arith, p, same), omega (arith, q, same))

    go : (v : Option ℕ) → by_cause (within low high v) ≡ Ok n → (low ≤ n) × (n ≤ high)
    go None h = absurd cc
    go (Some m) h = test m (ltb m low || ltb high m) refl h

pub length-each : {E X Y : Type 0} (f : X → Result Y E) (xs : List X) (ys : List Y) → each f xs ≡ Ok ys → length ys ≡ length xs
length-each f [] ys h = let same : [] ≡ ys = cc in ap length (sym same)
length-each f (x ∷ xs) ys h =
    let first = bind_ok (f x) (λ y. each f xs >>= λ others. Ok (y ∷ others)) ys h in
    let later = bind_ok (each f xs) (λ others. Ok (first.0 ∷ others)) ys first.2 in
    let same : first.0 ∷ later.0 ≡ ys = cc in
    ap length (sym same) ∙ ap suc (length-each f xs later.0 later.1)

pub each_all : {E X Y : Type 0} (P : Y → Type 0) (f : X → Result Y E) → ((x : X) (y : Y) → f x ≡ Ok y → P y)
    → (xs : List X) (ys : List Y) → each f xs ≡ Ok ys → AllByRecursion P ys
each_all P f one [] ys h = let same : [] ≡ ys = cc in subst (λ zs. AllByRecursion P zs) same tt
each_all P f one (x ∷ xs) ys h =
    let first = bind_ok (f x) (λ y. each f xs >>= λ others. Ok (y ∷ others)) ys h in
    let later = bind_ok (each f xs) (λ others. Ok (first.0 ∷ others)) ys first.2 in
    let same : first.0 ∷ later.0 ≡ ys = cc in
    subst (λ zs. AllByRecursion P zs) same (one x first.0 first.1, each_all P f one xs later.0 later.1)

-- an object has as many first values as words
pub length-first : (size : ℕ) (words : List (List ℕ)) (vs : List ℕ) → first_values size words ≡ Ok vs → length vs ≡ size
unfolding first_values
length-first size words vs h = go (eqb (length words) 0) refl h
  where
    given : (b : Bool) → eqb (length words) size ≡ b → cond b (each value words) (Err causes.Count) ≡ Ok vs → length vs ≡ size
    given true e h = length-each value words vs h ∙ eqb-true (length words) size e
    given false e h = absurd cc

    go : (b : Bool) → eqb (length words) 0 ≡ b → cond b (Ok (replicate size 0)) (cond (eqb (length words) size) (each value words) (Err causes.Count)) ≡ Ok vs → length vs ≡ size
    go true e h = let same : replicate size 0 ≡ vs = cc in ap length (sym same) ∙ length-replicate size 0
    go false e h = given (eqb (length words) size) refl h

-- what a line of words that is read says: its keyword may follow, and the keyword's reader gives the parts
pub words_read : (n : ℕ) (p q : Parts) (first : List ℕ) (words : List (List ℕ)) → words_after n p (first ∷ words) ≡ Ok q
    → (keyword : Keyword) × (found (keyword_of first) ≡ Ok keyword) × (may_follow p.last (stage_of keyword) ≡ true)
    × (c : Parts) × (keyword_after keyword n p words ≡ Ok c) × (record c { last = Some (stage_of keyword) } ≡ q)
unfolding words_after
words_read n p q first words h =
    let a = bind_ok (found (keyword_of first)) (λ keyword. allowed p.last (stage_of keyword) >>= λ stage. keyword_after keyword n p words >>= λ q. Ok (record q { last = Some stage })) q h in
    let keyword = a.0 in
    let b = bind_ok (allowed p.last (stage_of keyword)) (λ stage. keyword_after keyword n p words >>= λ q. Ok (record q { last = Some stage })) q a.2 in
    let f = allowed_if (may_follow p.last (stage_of keyword)) causes.Word (stage_of keyword) b.0 b.1 in
    let c = bind_ok (keyword_after keyword n p words) (λ q. Ok (record q { last = Some b.0 })) q b.2 in
    let same : record c.0 { last = Some b.0 } ≡ q = cc c.2 in
    (keyword, a.1, f.0, c.0, c.1, ap (λ (s : Stage). record c.0 { last = Some s }) f.1 ∙ same)
