-- No two versions of an object have the same writer, so a writer or a slot tells which one is held.
use Rattle.std.proofs.Common.{◌≡◌, ℕ, ◌<◌, inl, inr, Bool, true, cond, eqb, List, [], ◌∷◌, Option, Some, None, sym, ap, ◌∙◌, subst, arith, ⊎_elim}
use Rattle.std.specs.Prelude.{◌&&◌}
use Rattle.std.specs.List.{AllByRecursion}
use Rattle.std.proofs.lemmas.Bool.{eqb-true, eq-eqb, ne_eqb, or_cases, and_parts}
use Rattle.kernel_model.specs.Effects.{written}
use Rattle.kernel_model.specs.Items.{FinishRecord}
use Rattle.kernel_model.specs.Replay.{DeviceState}
use Rattle.kernel_model.specs.Versions.{Version, find_version, versions_to}
use Rattle.kernel_model.specs.History.{IsNumbered}
use Rattle.kernel_model.specs.Chain.{IsPart, floored}
use Rattle.kernel_model.proofs.ForCallers.{found, tops, writer_found, writers-older}
use Rattle.slot_model.specs.Kept.{Held, AreApart, is_there, versions_in}
use Rattle.slot_model.proofs.Chains.{each_held}
use Rattle.object_sets.specs.Pairs.{AllPairsByRecursion}

-- each writer is above those before it
abbrev pub Fall : List Version → Type 0
Fall = AllPairsByRecursion (λ v u. u.writer < v.writer)

pub versions_fall : (end : Option ℕ) (base : DeviceState) (o : ℕ) (history : List FinishRecord) → IsNumbered base history → Fall (versions_to end base o history)
versions_fall end base o [] h = (tt, tt)
versions_fall end base o (i ∷ history) h = go (λ e. versions_fall e base o history (h.0.2, h.1.1)) (written i.run.writes o)
  where
    go : ((e : Option ℕ) → Fall (versions_to e base o history)) → (w : Option (List ℕ)) → Fall (tops end base o i history w)
    go rest None = rest end
    go rest (Some words) = (writers-older (Some i.point) base o i history h, rest (Some i.point))

-- no two that are held have the same writer
abbrev pub AreUnique : List Held → Type 0
AreUnique = AllPairsByRecursion (λ h g. h.version.writer ≡ g.version.writer → ⊥)

pub part_unique : (floor : ℕ) (n : Version → Bool) (vs : List Version) → Fall vs → (hs : List Held) → IsPart floor n (versions_in hs) vs → AreUnique hs
part_unique floor n [] f [] p = tt
part_unique floor n [] f (h ∷ hs) p = absurd (cc p)
part_unique floor n (v ∷ vs) f [] p = tt
part_unique floor n (v ∷ vs) f (h ∷ hs) (inr p) = part_unique floor n vs f.1 (h ∷ hs) p.1
part_unique floor n (v ∷ vs) f (h ∷ hs) (inl p) =
    let first : h.version ≡ floored floor v = cc p.1 in
    let rest : versions_in hs ≡ p.0 = cc p.1 in
    let part : IsPart floor n (versions_in hs) vs = subst (λ x. IsPart floor n x vs) (sym rest) p.2 in
    let same : h.version.writer ≡ v.writer = ap (λ (x : Version). x.writer) first in
    (each_held floor n (λ u. u.writer < v.writer) (λ u. h.version.writer ≡ u.writer → ⊥) (λ u l e. omega (arith, l, e, same)) vs f.0 hs part, part_unique floor n vs f.1 hs part)

-- what is there, and the version that it is
pub record IsFound (floor slot writer : ℕ) (P : Held → Type 0) (vs : List Version) : Type 0 where
  pub held : Held
  pub here : P held
  pub slot_is : held.slot ≡ slot
  pub version : Version
  pub found_is : find_version writer vs ≡ Some version
  pub version_is : held.version ≡ floored floor version

pub there_found : (floor slot writer : ℕ) (n : Version → Bool) (P : Held → Type 0) (vs : List Version) → Fall vs → (hs : List Held) → IsPart floor n (versions_in hs) vs → is_there slot writer hs ≡ true → AllByRecursion P hs → IsFound floor slot writer P vs
there_found floor slot writer n P [] f [] p e all = absurd (cc e)
there_found floor slot writer n P [] f (h ∷ hs) p e all = absurd (cc p)
there_found floor slot writer n P (v ∷ vs) f [] p e all = absurd (cc e)
there_found floor slot writer n P (v ∷ vs) f (h ∷ hs) p e all = go p (λ hs q e all. there_found floor slot writer n P vs f.1 hs q e all)
  where
    later : IsFound floor slot writer P vs → IsFound floor slot writer P (v ∷ vs)
    later r =
        let low : r.version.writer < v.writer = found (λ u. u.writer < v.writer) writer vs r.version f.0 r.found_is in
        let other : v.writer ≡ writer → ⊥ = λ g. (let same = writer_found writer vs r.version r.found_is in omega (arith, low, same, g)) in
        record { held = r.held; here = r.here; slot_is = r.slot_is; version = r.version; found_is = ap (λ b. cond b (Some v) (find_version writer vs)) (ne_eqb v.writer writer other) ∙ r.found_is; version_is = r.version_is }

    go : IsPart floor n (versions_in (h ∷ hs)) (v ∷ vs) → ((hs : List Held) → IsPart floor n (versions_in hs) vs → is_there slot writer hs ≡ true → AllByRecursion P hs → IsFound floor slot writer P vs) → IsFound floor slot writer P (v ∷ vs)
    go (inr p) rest = later (rest (h ∷ hs) p.1 e all)
    go (inl p) rest = ⊎_elim here (λ g. later (rest hs part g all.1)) (or_cases (eqb h.slot slot && eqb h.version.writer writer) (is_there slot writer hs) e)
      where
        first : h.version ≡ floored floor v
        first = cc p.1

        tails : versions_in hs ≡ p.0
        tails = cc p.1

        part : IsPart floor n (versions_in hs) vs
        part = subst (λ x. IsPart floor n x vs) (sym tails) p.2

        here : (eqb h.slot slot && eqb h.version.writer writer) ≡ true → IsFound floor slot writer P (v ∷ vs)
        here g =
            let k = and_parts (eqb h.slot slot) (eqb h.version.writer writer) g in
            let w : v.writer ≡ writer = sym (ap (λ (x : Version). x.writer) first) ∙ eqb-true h.version.writer writer k.1 in
            record { held = h; here = all.0; slot_is = eqb-true h.slot slot k.0; version = v; found_is = ap (λ b. cond b (Some v) (find_version writer vs)) (eq-eqb v.writer writer w); version_is = first }

-- what is there stands in a slot and has a writer of its own
there_slot : (slot writer : ℕ) (h : Held) (hs : List Held) → is_there slot writer hs ≡ true → AllByRecursion (λ g. h.slot ≡ g.slot → ⊥) hs → h.slot ≡ slot → ⊥
there_slot slot writer h [] e a f = cc e
there_slot slot writer h (g ∷ hs) e a f =
    ⊎_elim (λ x. let k = and_parts (eqb g.slot slot) (eqb g.version.writer writer) x in a.0 (f ∙ sym (eqb-true g.slot slot k.0))) (λ x. there_slot slot writer h hs x a.1 f) (or_cases (eqb g.slot slot && eqb g.version.writer writer) (is_there slot writer hs) e)

there_writer : (slot writer : ℕ) (h : Held) (hs : List Held) → is_there slot writer hs ≡ true → AllByRecursion (λ g. h.version.writer ≡ g.version.writer → ⊥) hs → h.version.writer ≡ writer → ⊥
there_writer slot writer h [] e a f = cc e
there_writer slot writer h (g ∷ hs) e a f =
    ⊎_elim (λ x. let k = and_parts (eqb g.slot slot) (eqb g.version.writer writer) x in a.0 (f ∙ sym (eqb-true g.version.writer writer k.1))) (λ x. there_writer slot writer h hs x a.1 f) (or_cases (eqb g.slot slot && eqb g.version.writer writer) (is_there slot writer hs) e)

-- so the slot tells the writer
pub slot_tells : (slot writer : ℕ) (hs : List Held) → AreApart hs → AreUnique hs → is_there slot writer hs ≡ true → AllByRecursion (λ h. eqb slot h.slot ≡ eqb writer h.version.writer) hs
slot_tells slot writer [] a u e = tt
slot_tells slot writer (h ∷ hs) a u e = ⊎_elim here (λ g. (later g, slot_tells slot writer hs a.1 u.1 g)) (or_cases (eqb h.slot slot && eqb h.version.writer writer) (is_there slot writer hs) e)
  where
    later : is_there slot writer hs ≡ true → eqb slot h.slot ≡ eqb writer h.version.writer
    later g = ne_eqb slot h.slot (λ f. there_slot slot writer h hs g a.0 (sym f)) ∙ sym (ne_eqb writer h.version.writer (λ f. there_writer slot writer h hs g u.0 (sym f)))

    others : (gs : List Held) → AllByRecursion (λ g. h.slot ≡ g.slot → ⊥) gs → AllByRecursion (λ g. h.version.writer ≡ g.version.writer → ⊥) gs → h.slot ≡ slot → h.version.writer ≡ writer → AllByRecursion (λ g. eqb slot g.slot ≡ eqb writer g.version.writer) gs
    others [] p q e f = tt
    others (g ∷ gs) p q e f = (ne_eqb slot g.slot (λ x. p.0 (e ∙ x)) ∙ sym (ne_eqb writer g.version.writer (λ x. q.0 (f ∙ x))), others gs p.1 q.1 e f)

    here : (eqb h.slot slot && eqb h.version.writer writer) ≡ true → AllByRecursion (λ h. eqb slot h.slot ≡ eqb writer h.version.writer) (h ∷ hs)
    here g =
        let k = and_parts (eqb h.slot slot) (eqb h.version.writer writer) g in
        let s = eqb-true h.slot slot k.0 in
        let w = eqb-true h.version.writer writer k.1 in
        (eq-eqb slot h.slot (sym s) ∙ sym (eq-eqb writer h.version.writer (sym w)), others hs a.0 u.0 s w)
