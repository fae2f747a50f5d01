-- The finishes that a replay of entries finds, and their places.
use Rattle.std.proofs.Common.{suc, slice_get, ◌≤◌, ◌-◌, ◌≡◌, ℕ, ◌+◌, Bool, true, false, cond, eqb, List, [], ◌∷◌, ◌++◌, length, Option, Some, None, refl, sym, ap, ap₂, ◌∙◌, subst, arith}
use Rattle.std.specs.Prelude.{map}
use Rattle.std.specs.List.{AllByRecursion}
use Rattle.std.proofs.lemmas.Bool.{eq-eqb, ne_eqb, eqb-true}
use Rattle.kernel_model.specs.Effects.{Exit, Outcome, Programs, Run, Spawn, Trap}
use Rattle.kernel_model.specs.Items.{Entry, FinishRecord, entry_of}
use Rattle.kernel_model.specs.Replay.{IsRunOn, Replays, Tables, after}
use Rattle.kernel_model.specs.EntryReplay.{Good, Place, Replayed, Rerun, Wrong, entry_order, is_same_outcome, item_if_open, item_if_same, item_on, item_with, places_from, replayed_on, rerun_before, spawns_at}
use Rattle.kernel_model.proofs.EntryOrder.{AreApart, apart_first, apart_permutation, apart_rest, order-permutation, permuted-all, places_apart}
use Rattle.kernel_model.proofs.EntrySteps.{stepped}
use Rattle.kernel_model.proofs.Reruns.{place_of, spawns_of}

-- outcomes
same_itself : (a : Outcome) → is_same_outcome a a ≡ true
same_itself (Exit code) = eq-eqb code code refl
same_itself (Trap cause) = eq-eqb cause cause refl

same_outcomes : (a b : Outcome) → is_same_outcome a b ≡ true → a ≡ b
same_outcomes (Exit a) (Exit b) h = ap Exit (eqb-true a b h)
same_outcomes (Exit a) (Trap b) h = absurd (cc h)
same_outcomes (Trap a) (Exit b) h = absurd (cc h)
same_outcomes (Trap a) (Trap b) h = ap Trap (eqb-true a b h)

-- the finish of an entry, and back
entry_with : (e : Entry) (run : Run) → run.outcome ≡ e.outcome → entry_of (item_with e run) ≡ e
entry_with e run h = ap (λ (o : Outcome). let x : Entry = record { number = e.number; task = e.task; point = e.point; first = e.first; outcome = o } in x) h

item_on-run : (whole : Programs) (t : Tables) (i : FinishRecord) (task : Spawn) → t.tasks i.task ≡ Some task → whole task.program task.arg t.objects ≡ i.run → item_on whole t (entry_of i) ≡ Some i
item_on-run whole t i task f g = rw (f, g, same_itself i.run.outcome) refl

-- a finish that was found
record IsFound (whole : Programs) (t : Tables) (e : Entry) (i : FinishRecord) : Type 0 where
  task : Spawn
  is_open : t.tasks i.task ≡ Some task
  run : whole task.program task.arg t.objects ≡ i.run
  entry : entry_of i ≡ e

if_same_gives : (e : Entry) (run : Run) (i : FinishRecord) → item_if_same e run ≡ Some i → (item_with e run ≡ i) × (run.outcome ≡ e.outcome)
if_same_gives e run i h = go (is_same_outcome run.outcome e.outcome) refl h
  where
    go : (b : Bool) → is_same_outcome run.outcome e.outcome ≡ b → cond b (Some (item_with e run)) None ≡ Some i → (item_with e run ≡ i) × (run.outcome ≡ e.outcome)
    go true f h = (cc h, same_outcomes run.outcome e.outcome f)
    go false f h = absurd (cc h)

item_on-found : (whole : Programs) (t : Tables) (e : Entry) (i : FinishRecord) → item_on whole t e ≡ Some i → IsFound whole t e i
item_on-found whole t e i h = go (t.tasks e.task) refl h
  where
    go : (o : Option Spawn) → t.tasks e.task ≡ o → item_if_open whole t.objects e o ≡ Some i → IsFound whole t e i
    go None f h = absurd (cc h)
    go (Some task) f h =
        let k = if_same_gives e (whole task.program task.arg t.objects) i h in
        subst (IsFound whole t e) k.0 (record { task = task; is_open = f; run = refl; entry = entry_with e (whole task.program task.arg t.objects) k.1 })

pub item_entry : (whole : Programs) (t : Tables) (e : Entry) → ((i : FinishRecord) → item_on whole t e ≡ Some i → IsRunOn whole i t × (entry_of i ≡ e)) × (item_on whole t e ≡ None → (i : FinishRecord) → IsRunOn whole i t → entry_of i ≡ e → ⊥)
item_entry whole t e = ((λ i h. let f = item_on-found whole t e i h in ((f.task, f.is_open, f.run), f.entry)), λ h i r same. let k : item_on whole t e ≡ Some i = subst (λ (x : Entry). item_on whole t x ≡ Some i) same (item_on-run whole t i r.0 r.1 r.2) in let l : None ≡ Some i = sym h ∙ k in cc l)

-- a replay of finishes is good
pub replay_of : (whole : Programs) (t : Tables) (rs : List Rerun) → Replays whole t (map (λ r. r.item) rs) → replayed_on whole t (map place_of rs) ≡ Good rs
replay_of whole t [] h = refl
replay_of whole t (r ∷ rs) h =
    stepped whole t (place_of r) (map place_of rs) (Some r.item) (item_on-run whole t r.item h.0.0 h.0.1 h.0.2)
    ∙ ap (rerun_before r) (replay_of whole (after r.item t) rs h.1)

-- and a good replay is one of finishes
pub of_replay : (whole : Programs) (t : Tables) (ps : List Place) (rs : List Rerun) → replayed_on whole t ps ≡ Good rs → (map place_of rs ≡ ps) × Replays whole t (map (λ r. r.item) rs)
of_replay whole t [] rs h = let e : [] ≡ rs = cc h in subst (λ (xs : List Rerun). (map place_of xs ≡ []) × Replays whole t (map (λ r. r.item) xs)) e (refl, tt)
of_replay whole t (p ∷ ps) rs h = go (item_on whole t p.entry) refl (λ i. of_replay whole (after i t) ps)
  where
    IsOf : List Rerun → Type 0
    IsOf xs = (map place_of xs ≡ p ∷ ps) × Replays whole t (map (λ r. r.item) xs)

    on : (i : FinishRecord) → IsFound whole t p.entry i → (d : Replayed) → ((xs : List Rerun) → d ≡ Good xs → (map place_of xs ≡ ps) × Replays whole (after i t) (map (λ r. r.item) xs)) →
        rerun_before (record { place = p.place; item = i }) d ≡ Good rs → IsOf rs
    on i f (Wrong place) rest g = absurd (cc g)
    on i f (Good xs) rest g =
        let k = rest xs refl in
        let e : (let r : Rerun = record { place = p.place; item = i } in r) ∷ xs ≡ rs = cc g in
        subst IsOf e (ap₂ (λ (x : Entry) (zs : List Place). (let z : Place = record { place = p.place; entry = x } in z) ∷ zs) f.entry k.0, ((f.task, f.is_open, f.run), k.1))

    go : (o : Option FinishRecord) → item_on whole t p.entry ≡ o → ((i : FinishRecord) (xs : List Rerun) → replayed_on whole (after i t) ps ≡ Good xs → (map place_of xs ≡ ps) × Replays whole (after i t) (map (λ r. r.item) xs)) → IsOf rs
    go None e rest = absurd (let k = sym (stepped whole t p ps None e) ∙ h in cc k)
    go (Some i) e rest = on i (item_on-found whole t p.entry i e) (replayed_on whole (after i t) ps) (rest i) (sym (stepped whole t p ps (Some i) e) ∙ h)

-- the entry at a place
entries_at : (j : ℕ) (entries : List Entry) → AllByRecursion (λ p. (j ≤ p.place) × (slice_get entries (p.place - j) ≡ Some p.entry)) (places_from j entries)
entries_at j [] = tt
entries_at j (e ∷ entries) = ((omega arith, let z : j - j ≡ 0 = omega arith in rw z refl), later (places_from (j + 1) entries) (entries_at (j + 1) entries))
  where
    later : (ps : List Place) → AllByRecursion (λ p. (j + 1 ≤ p.place) × (slice_get entries (p.place - (j + 1)) ≡ Some p.entry)) ps → AllByRecursion (λ p. (j ≤ p.place) × (slice_get (e ∷ entries) (p.place - j) ≡ Some p.entry)) ps
    later [] h = tt
    later (p ∷ ps) h = let l : j + 1 ≤ p.place = h.0.0 in let z : p.place - j ≡ suc (p.place - (j + 1)) = omega (arith, l) in ((omega (arith, l), rw z h.0.1), later ps h.1)

in_middle : (P : Place → Type 0) (done rest : List Place) (p : Place) → AllByRecursion P (done ++ p ∷ rest) → P p
in_middle P [] rest p h = h.0
in_middle P (x ∷ done) rest p h = in_middle P done rest p h.1

-- no place before it is the same
new_place : (done rest : List Place) (p : Place) → AreApart (done ++ p ∷ rest) → AllByRecursion (λ x. x.place ≡ p.place → ⊥) done
new_place [] rest p h = tt
new_place (x ∷ done) rest p h = (in_middle (λ y. x.place ≡ y.place → ⊥) done rest p (apart_first x (done ++ p ∷ rest) h), new_place done rest p (apart_rest x (done ++ p ∷ rest) h))

spawns-absent : (k : ℕ) (rs : List Rerun) → AllByRecursion (λ x. x.place ≡ k → ⊥) (map place_of rs) → spawns_at k rs ≡ 0
spawns-absent k [] h = refl
spawns-absent k (r ∷ rs) h = rw (ne_eqb r.place k h.0) (spawns-absent k rs h.1)

spawns-last : (rs : List Rerun) (r : Rerun) (k : ℕ) → AllByRecursion (λ x. x.place ≡ r.place → ⊥) (map place_of rs) → spawns_at k (rs ++ r ∷ []) ≡ cond (eqb r.place k) (spawns_of r) (spawns_at k rs)
spawns-last [] r k h = refl
spawns-last (x ∷ rs) r k h = go (spawns-last rs r k h.1) (eqb x.place k) refl
  where
    go : spawns_at k (rs ++ r ∷ []) ≡ cond (eqb r.place k) (spawns_of r) (spawns_at k rs) → (b : Bool) → eqb x.place k ≡ b →
        cond b (spawns_of x) (spawns_at k (rs ++ r ∷ [])) ≡ cond (eqb r.place k) (spawns_of r) (cond b (spawns_of x) (spawns_at k rs))
    go rest true e = let same : x.place ≡ k = eqb-true x.place k e in rw (ne_eqb r.place k (λ f. h.0 (same ∙ sym f))) refl
    go rest false e = rest

pub next_place : (whole : Programs) (t : Tables) (entries : List Entry) (done rest : List Place) (p : Place) (reruns : List Rerun) → entry_order entries ≡ done ++ p ∷ rest → replayed_on whole t done ≡ Good reruns →
    (slice_get entries p.place ≡ Some p.entry) × (spawns_at p.place reruns ≡ 0)
    × ((i : FinishRecord) (k : ℕ) → spawns_at k (reruns ++ (let r : Rerun = record { place = p.place; item = i } in r) ∷ []) ≡ cond (eqb p.place k) (length i.run.spawns) (spawns_at k reruns))
next_place whole t entries done rest p reruns e h = (let z : p.place - 0 ≡ p.place = omega arith in rw z at at_place.1, spawns-absent p.place reruns absent, λ i k. spawns-last reruns (record { place = p.place; item = i }) k absent)
  where
    at_place : (0 ≤ p.place) × (slice_get entries (p.place - 0) ≡ Some p.entry)
    at_place = in_middle (λ x. (0 ≤ x.place) × (slice_get entries (x.place - 0) ≡ Some x.entry)) done rest p
        (subst (AllByRecursion (λ x. (0 ≤ x.place) × (slice_get entries (x.place - 0) ≡ Some x.entry))) e (permuted-all (λ x. (0 ≤ x.place) × (slice_get entries (x.place - 0) ≡ Some x.entry)) (places_from 0 entries) (entry_order entries) (order-permutation (places_from 0 entries)) (entries_at 0 entries)))

    absent : AllByRecursion (λ x. x.place ≡ p.place → ⊥) (map place_of reruns)
    absent =
        subst (AllByRecursion (λ x. x.place ≡ p.place → ⊥)) (sym (of_replay whole t done reruns h).0)
        (new_place done rest p (subst AreApart e (apart_permutation (places_from 0 entries) (entry_order entries) (order-permutation (places_from 0 entries)) (places_apart 0 entries))))
