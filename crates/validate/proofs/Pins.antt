-- The pins of attempts, one more at a time.
use Rattle.std.proofs.Common.{◌≡◌, ℕ, ◌+◌, ◌<◌, List, [], ◌∷◌, ◌++◌, length, get_or, take, set, map, Option, Some, None, refl, sym, ap, ◌∙◌}
use Rattle.std.specs.Option.{option_map}
use Rattle.std.proofs.lemmas.List.{map-append, take_more, take_more_set}
use Rattle.interval.specs.Ranges.{range_of}
use Rattle.interval.specs.declared.ranges.Interval.{Interval}
use Rattle.interval.specs.declared.version.Pin.{Pin}
use Rattle.kernel_model.specs.Intervals as model
use Rattle.slot_model.specs.Tabled as kept
use Rattle.ver_table.specs.Tabled.{AreViews, pin_in, pins_of, with_pin}
use Rattle.validate.specs.Views.{copied_by, view_of, with_copied}
use Rattle.validate.specs.declared.beside.View.{View}

-- with one attempt more
pub copied-append : (xs : List View) (v : View) → copied_by (xs ++ v ∷ []) ≡ copied_by xs ++ with_copied v.copying []
copied-append [] v = at v.copying
  where
    at : (c : Option Pin) → with_copied c [] ≡ with_copied c []
    at c = refl
copied-append (x ∷ xs) v = at x.copying (copied-append xs v)
  where
    at : (c : Option Pin) → copied_by (xs ++ v ∷ []) ≡ copied_by xs ++ with_copied v.copying [] → with_copied c (copied_by (xs ++ v ∷ [])) ≡ with_copied c (copied_by xs) ++ with_copied v.copying []
    at None e = e
    at (Some p) e = ap (λ (ps : List Pin). p ∷ ps) e

-- they are those of what is kept of the attempts
pub views_are : (views : List View) → AreViews (map view_of views) (map range_of (map (λ (v : View). v.interval) views)) (copied_by views)
views_are views = record { intervals_are = intervals views; pins_are = pins views }
  where
    intervals : (vs : List View) → map (λ (v : kept.View). v.interval) (map view_of vs) ≡ map range_of (map (λ (v : View). v.interval) vs)
    intervals [] = refl
    intervals (v ∷ vs) = ap (λ (is : List model.Interval). range_of v.interval ∷ is) (intervals vs)

    pins : (vs : List View) → pins_of (map view_of vs) ≡ map pin_in (copied_by vs)
    pins [] = refl
    pins (v ∷ vs) = at v.copying (pins vs)
      where
        at : (c : Option Pin) → pins_of (map view_of vs) ≡ map pin_in (copied_by vs) → with_pin (option_map pin_in c) (pins_of (map view_of vs)) ≡ map pin_in (with_copied c (copied_by vs))
        at None e = e
        at (Some p) e = ap (λ (ps : List kept.Pin). pin_in p ∷ ps) e

-- and so are their intervals
pub intervals_more : (xs : List View) (is : List Interval) (i : ℕ) (d : View) → i < length xs → i < length is → take i is ≡ map (λ (v : View). v.interval) (take i xs)
    → take (i + 1) (set is i (get_or xs i d).interval) ≡ map (λ (v : View). v.interval) (take (i + 1) xs)
intervals_more xs is i d l m e =
    take_more_set is i (get_or xs i d).interval m
    ∙ ap (λ (js : List Interval). js ++ (get_or xs i d).interval ∷ []) e
    ∙ sym (map-append (λ (v : View). v.interval) (take i xs) (get_or xs i d ∷ []))
    ∙ ap (map (λ (v : View). v.interval)) (sym (take_more xs i d l))

pub copied_more : (xs : List View) (ps : List Pin) (i : ℕ) (d : View) → i < length xs → ps ≡ copied_by (take i xs) → ps ++ with_copied (get_or xs i d).copying [] ≡ copied_by (take (i + 1) xs)
copied_more xs ps i d l e =
    ap (λ (qs : List Pin). qs ++ with_copied (get_or xs i d).copying []) e
    ∙ sym (copied-append (take i xs) (get_or xs i d))
    ∙ ap copied_by (sym (take_more xs i d l))

-- what a list that has ended gives
abbrev pub no_view : View
no_view = record { interval = record { lo = record { 0 = 0 }; hi = None }; copying = None }
