-- Reading words one after the other, as a loop does.
use Rattle.std.proofs.Common.{◌≡◌, List, [], ◌∷◌, ◌++◌, Result, Ok, Err, refl, sym, ap, ◌∙◌, append_assoc}
use Rattle.std.proofs.lemmas.List.{append-nil}
use Rattle.script.specs.declared.refusals.ScriptCause.{ScriptCause}
use Rattle.nv_base.specs.declared.refusals.Refusal.{Refusal}
use Rattle.nv_base.specs.declared.refusals.Refusal.TheVariants as refusals
use Rattle.nv_base.specs.Refusals.{Refuses}
use Rattle.nv_base.specs.Results.{◌>>=◌}
use Rattle.script.specs.Results.{each}

module _ {X Y : Type 0} (f : X → Result Y ScriptCause) where
  -- what was read before, and what is still read
  abbrev pub each_from : List Y → List X → Result (List Y) ScriptCause
  each_from front words = each f words >>= λ ys. Ok (front ++ ys)

  regroup : (front : List Y) (y : Y) (read : Result (List Y) ScriptCause) → ((read >>= λ ys. Ok (y ∷ ys)) >>= λ ys. Ok (front ++ ys)) ≡ (read >>= λ ys. Ok ((front ++ y ∷ []) ++ ys))
  regroup front y (Ok ys) = ap (λ (l : List Y). Ok l) (simp append_assoc)
  regroup front y (Err e) = refl

  pub goes_on : (front : List Y) (word : X) (words : List X) (y : Y) (total : Result (List Y) ScriptCause) → f word ≡ Ok y
      → each_from front (word ∷ words) ≡ total → each_from (front ++ y ∷ []) words ≡ total
  goes_on front word words y total h so_far =
      let one : each_from front (word ∷ words) ≡ each_from (front ++ y ∷ []) words = rw h (regroup front y (each f words)) in
      sym one ∙ so_far

  pub ends : (e : Refusal ScriptCause) (front : List Y) (word : X) (words : List X) (total : Result (List Y) ScriptCause) → Refuses e (f word)
      → each_from front (word ∷ words) ≡ total → Refuses e total
  ends refusals.NoMemory front word words total h so_far = tt
  ends (refusals.At cause) front word words total h so_far =
      let one : each_from front (word ∷ words) ≡ Err cause = rw h refl in
      sym so_far ∙ one

  pub is_done : (front : List Y) (total : Result (List Y) ScriptCause) → each_from front [] ≡ total → total ≡ Ok front
  is_done front total so_far = sym so_far ∙ ap (λ (ys : List Y). Ok ys) (append-nil front)
