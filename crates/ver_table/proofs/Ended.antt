-- All versions but the newest have ended, also with a new version.
use Rattle.std.proofs.Common.{◌≡◌, ℕ, Bool, true, false, cond, eqb, not, List, [], ◌∷◌, refl}
use Rattle.std.specs.Prelude.{is_none}
use Rattle.std.specs.List.{AllByRecursion}
use Rattle.ver_table.specs.Chains.{Chain, Place, installed, newest_ended, without}
use Rattle.ver_table.specs.Slots.{AreEnded}

-- all of these have ended
abbrev pub AreOld : List Place → Type 0
AreOld vs = AllByRecursion (λ u. is_none u.end ≡ false) vs

old_without : (k : ℕ) (vs : List Place) → AreOld vs → AreOld (without k vs)
old_without k [] h = tt
old_without k (v ∷ vs) h = at (eqb v.slot k) (old_without k vs h.1)
  where
    at : (b : Bool) → AreOld (without k vs) → AreOld (cond (not b) (v ∷ without k vs) (without k vs))
    at true rest = rest
    at false rest = (h.0, rest)

old_newest : (p : ℕ) (vs : List Place) → AreOld vs → AreOld (newest_ended p vs)
old_newest p [] h = tt
old_newest p (v ∷ vs) h = (refl, h.1)

pub ended_installed : (k p : ℕ) (c : Chain) → AreEnded c.stored → AreEnded (installed k p c).stored
ended_installed k p c h = (refl, at c.stored h)
  where
    at : (vs : List Place) → AreEnded vs → AreOld (newest_ended p (without k vs))
    at [] h = tt
    at (v ∷ vs) h = by (eqb v.slot k) (old_without k vs h.1)
      where
        by : (b : Bool) → AreOld (without k vs) → AreOld (newest_ended p (cond (not b) (v ∷ without k vs) (without k vs)))
        by true rest = old_newest p (without k vs) rest
        by false rest = (refl, rest)
