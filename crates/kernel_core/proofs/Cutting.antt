-- A finish that joins cuts what the other cores hold.
use Rattle.std.proofs.Common.{◌≡◌, ℕ, zero, suc, ◌+◌, ◌<◌, Bool, true, false, nat_eq, List, [], ◌∷◌, length, map, set, get_or, Option, Some, None, is_some, refl, sym, ap, ◌∙◌, subst, arith, get_or-set_other, get_or-set_same}
use Rattle.std.specs.List.{AllByRecursion}
use Rattle.std.proofs.lemmas.Bool.{eqb-false, eqb-true}
use Rattle.std.proofs.lemmas.List.{length-map, length-set}
use Rattle.object_sets.specs.ObjectSets.{is_among}
use Rattle.rv_core.specs.State.{MachineState}
use Rattle.kernel_model.specs.Effects.{written}
use Rattle.kernel_model.specs.Items.{FinishRecord}
use Rattle.set_model.specs.Sets.{TaskSet}
use Rattle.device_model.specs.IndexWords.{Index}
use Rattle.table_machine.specs.Tables.{Seat, Vacant}
use Rattle.table_machine.specs.Events.{cut_seat}
use Rattle.vol_copy.specs.Tries.{IsFor}
use Rattle.vol_copy.specs.declared.attempt.Attempt.{Attempt}
use Rattle.core_seats.specs.declared.seat.Seat as own
use Rattle.core_seats.specs.declared.seat.Saving.{Saving}
use Rattle.core_seats.specs.Holding.{AreSeats, StandsFor, StandsForBy}
use Rattle.core_seats.specs.Steps.{IsCutBy}
use Rattle.kernel_core.specs.Cuts.{AreCut, IsCut}
use Rattle.kernel_core.proofs.Turned.{SavesNone, all_at, seat_at, seats_length}

-- ---- lists by their places

-- a place of a list, whatever stands behind its end
pub same_place : {A : Type 0} → (xs : List A) (n : ℕ) (x y : A) → n < length xs → get_or xs n x ≡ get_or xs n y
same_place [] n x y l = absurd (omega (arith, l))
same_place (z ∷ xs) zero x y l = refl
same_place (z ∷ xs) (suc n) x y l = same_place xs n x y (omega (arith, l))

pub all_each : (P : own.Seat → Type 0) (xs : List own.Seat) → ((n : ℕ) (x : own.Seat) → n < length xs → x ≡ get_or xs n x → P x) → AllByRecursion P xs
all_each P [] h = tt
all_each P (x ∷ xs) h = (h 0 x (omega arith) refl, all_each P xs (λ n y l e. h (suc n) y (omega (arith, l)) e))

pub seats_each : (seats : List own.Seat) (after : Index) (held : List (Seat MachineState)) → length held ≡ length seats → ((n : ℕ) (s : own.Seat) → n < length seats → s ≡ get_or seats n s → StandsFor s after (get_or held n Vacant)) → AreSeats seats after held
seats_each [] after [] e h = tt
seats_each [] after (t ∷ held) e h = absurd (omega (arith, e))
seats_each (s ∷ seats) after [] e h = absurd (omega (arith, e))
seats_each (s ∷ seats) after (t ∷ held) e h = (h 0 s (omega arith) refl, seats_each seats after held (omega (arith, e)) (λ n x l f. h (suc n) x (omega (arith, l)) f))

pub cut_at : (i : FinishRecord) (held : List (Seat MachineState)) (n : ℕ) → get_or (map (cut_seat i) held) n Vacant ≡ cut_seat i (get_or held n Vacant)
cut_at i [] n = refl
cut_at i (t ∷ held) zero = refl
cut_at i (t ∷ held) (suc n) = cut_at i held n

-- ---- the loop

less : (m n : ℕ) → m < n + 1 → (m ≡ n → ⊥) → m < n
less zero zero b ne = absurd (ne refl)
less zero (suc n) b ne = omega arith
less (suc m) zero b ne = absurd (omega (arith, b))
less (suc m) (suc n) b ne = let rest = less m n (omega (arith, b)) (λ e. ne (ap suc e)) in omega (arith, rest)

pub cut_more : (point : ℕ) (objects : List ℕ) (n : ℕ) (old now : List own.Seat) (x u : own.Seat) → AreCut point objects n old now → n < length now → x ≡ get_or now n x → IsCut point objects x u → AreCut point objects (n + 1) old (set now n u)
cut_more point objects n old now x u h l e c = record { number = length-set now n u ∙ h.number; first = λ m s v b p q. first m s v b p q (nat_eq m n) refl; rest = λ m s b. get_or-set_other now n m u s (λ z. absurd (omega (arith, b, z))) ∙ h.rest m s (omega (arith, b)) }
  where
    first : (m : ℕ) (s v : own.Seat) → m < n + 1 → s ≡ get_or old m s → v ≡ get_or (set now n u) m v → (b : Bool) → nat_eq m n ≡ b → IsCut point objects s v
    first m s v b p q true d =
        let here : m ≡ n = eqb-true m n d in
        let new : v ≡ u = q ∙ ap (λ (k : ℕ). get_or (set now n u) k v) here ∙ get_or-set_same now n u v l in
        let same : x ≡ s = e ∙ h.rest n x (omega arith) ∙ same_place old n x s (let k = h.number in omega (arith, l, k)) ∙ ap (λ (k : ℕ). get_or old k s) (sym here) ∙ sym p in
        subst (λ (y : own.Seat). IsCut point objects y v) same (subst (λ (y : own.Seat). IsCut point objects x y) (sym new) c)
    first m s v b p q false d =
        let ne = eqb-false m n d in
        h.first m s v (less m n b ne) p (q ∙ get_or-set_other now n m u v ne)

-- ---- all cores behind the finish

-- a core that commits none stands for its seat whatever index comes after
any_after : (s : own.Seat) (seat : Seat MachineState) (x y : Index) → SavesNone seat → (v : Option Saving) → StandsForBy s x v seat → StandsForBy s y v seat
any_after s seat x y none None h = h
any_after s seat x y none (Some v) h = absurd (none h.finish x h.left h.is)

-- core n's seat is cleared, and all others are cut
pub seats_cut : (point : ℕ) (objects : List ℕ) (seats new : List own.Seat) (held : List (Seat MachineState)) (x y : Index) (n : ℕ) (cleared : own.Seat) (i : FinishRecord)
    → AreCut point objects (length seats) seats new → i.point ≡ point → ((o : ℕ) → is_some (written i.run.writes o) ≡ is_among o objects)
    → AreSeats seats x held → n < length seats → ((m : ℕ) → (m ≡ n → ⊥) → SavesNone (get_or held m Vacant)) → StandsFor cleared y Vacant
    → AreSeats (set new n cleared) y (set (map (cut_seat i) held) n Vacant)
unfolding IsCutBy
seats_cut point objects seats new held x y n cleared i c at writes h l none vacant =
    seats_each (set new n cleared) y (set (map (cut_seat i) held) n Vacant) (length-set (map (cut_seat i) held) n Vacant ∙ length-map held (cut_seat i) ∙ seats_length seats x held h ∙ sym c.number ∙ sym (length-set new n cleared))
    (λ m s b e. each m s b e (nat_eq m n) refl)
  where
    each : (m : ℕ) (s : own.Seat) → m < length (set new n cleared) → s ≡ get_or (set new n cleared) m s → (d : Bool) → nat_eq m n ≡ d → StandsFor s y (get_or (set (map (cut_seat i) held) n Vacant) m Vacant)
    each m s b e true d =
        let here : m ≡ n = eqb-true m n d in
        let mine : cleared ≡ s = sym (e ∙ ap (λ (k : ℕ). get_or (set new n cleared) k s) here ∙ get_or-set_same new n cleared s (let k = c.number in omega (arith, l, k))) in
        let seat : Vacant ≡ get_or (set (map (cut_seat i) held) n Vacant) m Vacant =
        sym (ap (λ (k : ℕ). get_or (set (map (cut_seat i) held) n Vacant) k Vacant) here ∙ get_or-set_same (map (cut_seat i) held) n Vacant Vacant (let p = length-map held (cut_seat i) in let q = seats_length seats x held h in omega (arith, l, p, q))) in
        subst (λ (u : own.Seat). StandsFor u y (get_or (set (map (cut_seat i) held) n Vacant) m Vacant)) mine (subst (StandsFor cleared y) seat vacant)
    each m s b e false d =
        let ne = eqb-false m n d in
        let inside : m < length seats = (let p = length-set new n cleared in let k = c.number in omega (arith, b, p, k)) in
        let old = get_or seats m s in
        let old_is : old ≡ get_or seats m old = same_place seats m s old inside in
        let stands = any_after old (get_or held m Vacant) x y (none m ne) old.saving (seat_at seats x held m old h inside old_is) in
        let cut = (c.first m old s inside old_is (e ∙ get_or-set_other new n m cleared s ne)).cuts y i (get_or held m Vacant) at writes stands in
        subst (StandsFor s y) (sym (get_or-set_other (map (cut_seat i) held) n m Vacant Vacant ne ∙ cut_at i held m)) cut

-- all attempts are kept for the set
pub attempts_cut : (set_of : TaskSet) (point : ℕ) (objects : List ℕ) (seats new : List own.Seat) (n : ℕ) (cleared : own.Seat) → AreCut point objects (length seats) seats new → AllByRecursion (λ s. IsFor set_of s.attempt) seats → ((s : own.Seat) → s ≡ get_or new n s → IsFor set_of s.attempt → IsFor set_of cleared.attempt) → n < length seats
    → AllByRecursion (λ s. IsFor set_of s.attempt) (set new n cleared)
attempts_cut set_of point objects seats new n cleared c h kept l = all_each (λ s. IsFor set_of s.attempt) (set new n cleared) (λ m s b e. each m s b e (nat_eq m n) refl)
  where
    before : (m : ℕ) (s : own.Seat) → m < length seats → s ≡ get_or new m s → IsFor set_of s.attempt
    before m s inside e =
        let old = get_or seats m s in
        let old_is : old ≡ get_or seats m old = same_place seats m s old inside in
        subst (λ (a : Attempt). IsFor set_of a) (sym (c.first m old s inside old_is e).attempt) (all_at (λ (z : own.Seat). IsFor set_of z.attempt) seats m old h inside old_is)

    each : (m : ℕ) (s : own.Seat) → m < length (set new n cleared) → s ≡ get_or (set new n cleared) m s → (d : Bool) → nat_eq m n ≡ d → IsFor set_of s.attempt
    each m s b e true d =
        let here : m ≡ n = eqb-true m n d in
        let mine : cleared ≡ s = sym (e ∙ ap (λ (k : ℕ). get_or (set new n cleared) k s) here ∙ get_or-set_same new n cleared s (let k = c.number in omega (arith, l, k))) in
        let there = get_or new n cleared in
        let there_is : there ≡ get_or new n there = same_place new n cleared there (let k = c.number in omega (arith, l, k)) in
        subst (λ (u : own.Seat). IsFor set_of u.attempt) mine (kept there there_is (before n there l there_is))
    each m s b e false d =
        let inside : m < length seats = (let p = length-set new n cleared in let k = c.number in omega (arith, b, p, k)) in
        before m s inside (e ∙ get_or-set_other new n m cleared s (eqb-false m n d))
