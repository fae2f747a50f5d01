-- Entries whose replay is good have one history.
use Rattle.std.proofs.Common.{◌≡◌, ℕ, ◌+◌, ◌<◌, Bool, true, false, cond, eqb, List, [], ◌∷◌, ◌++◌, append_assoc, length, refl, sym, ap, ap₂, ◌∙◌, subst, arith, sum_by}
use Rattle.std.specs.Prelude.{map}
use Rattle.std.specs.List.{AllByRecursion}
use Rattle.std.proofs.lemmas.Bool.{eq-eqb, ne_eqb, eqb-true}
use Rattle.std.proofs.lemmas.List.{append-nil}
use Rattle.std.specs.List.Sorted.{IsPermutation}
use Rattle.kernel_model.specs.Effects.{Programs}
use Rattle.kernel_model.specs.Items.{Entry, FinishRecord, entry_of, listing, precedes, serial_order}
use Rattle.kernel_model.specs.Replay.{DeviceState, Replays, after_all, tables_of}
use Rattle.kernel_model.specs.Serial.{Serial}
use Rattle.kernel_model.specs.EntryReplay.{AreSerial, ChildrenFollow, Good, NumbersFollow, Place, Rerun, Wrong, entry_order, item_with, latest, places_from, replay, spawns_at}
use Rattle.kernel_model.proofs.EntryOrder.{AreApart, apart_first, apart_permutation, apart_rest, order-permutation, permuted-all, places_apart}
use Rattle.kernel_model.proofs.OneState.{same_entries}
use Rattle.kernel_model.proofs.Reruns.{length-listing, items-reruns, place_of, places-reruns, put_rerun, put_rerun-all, reruns_below, reruns_of, spawns_of}
use Rattle.kernel_model.proofs.EntryItems.{of_replay}
use Rattle.kernel_model.proofs.EntryReplays.{latest-clock, next_id-reruns, numbered_by, replayed_history, serial_are}

-- the finish at a place
item_or : Entry → ℕ → List Rerun → FinishRecord
item_or e k [] = item_with e (record { outcome = e.outcome; reads = []; writes = []; spawns = [] })
item_or e k (r ∷ rs) = cond (eqb r.place k) r.item (item_or e k rs)

-- each finish of a history is that at its place
AreAt : List Rerun → List FinishRecord → Type 0
AreAt rs [] = Unit {0}
AreAt rs (i ∷ history) = (i ≡ item_or (entry_of i) (length history) rs) × AreAt rs history

abbrev IsOwn : List Rerun → Rerun → Type 0
IsOwn rs r = r.item ≡ item_or (entry_of r.item) r.place rs

-- those at one place have one entry
abbrev Fit : List Place → ℕ → List Entry → Type 0
Fit ps k [] = Unit {0}
Fit ps k (e ∷ entries) = AllByRecursion (λ p. p.place ≡ k → p.entry ≡ e) ps × Fit ps (k + 1) entries

fit_more : (p : Place) (ps : List Place) (k : ℕ) (entries : List Entry) → p.place < k → Fit ps k entries → Fit (p ∷ ps) k entries
fit_more p ps k [] l h = tt
fit_more p ps k (e ∷ entries) l h = (((λ f. absurd (omega (arith, f, l))), h.0), fit_more p ps (k + 1) entries (omega (arith, l)) h.1)

above : (j k : ℕ) (e : Entry) (entries : List Entry) → j < k → AllByRecursion (λ p. p.place ≡ j → p.entry ≡ e) (places_from k entries)
above j k e [] l = tt
above j k e (x ∷ entries) l = ((λ f. absurd (omega (arith, f, l))), above j (k + 1) e entries (omega (arith, l)))

fit_places : (j : ℕ) (entries : List Entry) → Fit (places_from j entries) j entries
fit_places j [] = tt
fit_places j (e ∷ entries) = (((λ f. refl), above j (j + 1) e entries (omega arith)), fit_more (record { place = j; entry = e }) (places_from (j + 1) entries) (j + 1) entries (omega arith) (fit_places (j + 1) entries))

fit_permutation : (ps qs : List Place) (k : ℕ) (entries : List Entry) → IsPermutation ps qs → Fit ps k entries → Fit qs k entries
fit_permutation ps qs k [] p h = tt
fit_permutation ps qs k (e ∷ entries) p h = (permuted-all (λ p. p.place ≡ k → p.entry ≡ e) ps qs p h.0, fit_permutation ps qs (k + 1) entries p h.1)

entry_or : (e : Entry) (k : ℕ) (rs : List Rerun) → AllByRecursion (λ p. p.place ≡ k → p.entry ≡ e) (map place_of rs) → entry_of (item_or e k rs) ≡ e
unfolding item_or
entry_or e k [] h = refl
entry_or e k (r ∷ rs) h = go (entry_or e k rs h.1) (eqb r.place k) refl
  where
    go : entry_of (item_or e k rs) ≡ e → (b : Bool) → eqb r.place k ≡ b → entry_of (cond b r.item (item_or e k rs)) ≡ e
    go rest true f = h.0 (eqb-true r.place k f)
    go rest false f = rest

-- the history of some entries, newest first, before older finishes
history_with : List Rerun → List FinishRecord → List Entry → List FinishRecord
history_with rs history [] = history
history_with rs history (e ∷ entries) = history_with rs (item_or e (length history) rs ∷ history) entries

listing-with : (rs : List Rerun) (history : List FinishRecord) (n : ℕ) (entries : List Entry) → n ≡ length history → Fit (map place_of rs) n entries → listing (history_with rs history entries) ≡ listing history ++ entries
unfolding history_with
listing-with rs history n [] z h = sym (append-nil (listing history))
listing-with rs history n (e ∷ entries) z h =
    listing-with rs (i ∷ history) (n + 1) entries (omega (arith, z)) h.1
    ∙ append_assoc (listing history) (entry_of i ∷ []) entries
    ∙ ap (λ (x : Entry). listing history ++ x ∷ entries) (ap (λ (k : ℕ). entry_of (item_or e k rs)) (sym z) ∙ entry_or e n rs h.0)
  where
    i : FinishRecord
    i = item_or e (length history) rs

at-with : (rs : List Rerun) (history : List FinishRecord) (n : ℕ) (entries : List Entry) → n ≡ length history → Fit (map place_of rs) n entries → AreAt rs history → AreAt rs (history_with rs history entries)
unfolding history_with AreAt
at-with rs history n [] z h a = a
at-with rs history n (e ∷ entries) z h a = at-with rs (i ∷ history) (n + 1) entries (omega (arith, z)) h.1 (ap (λ (x : Entry). item_or x (length history) rs) (sym same), a)
  where
    i : FinishRecord
    i = item_or e (length history) rs

    same : entry_of i ≡ e
    same = ap (λ (k : ℕ). entry_of (item_or e k rs)) (sym z) ∙ entry_or e n rs h.0

at-reruns : (rs : List Rerun) (history : List FinishRecord) → AreAt rs history → AllByRecursion (IsOwn rs) (reruns_of history)
unfolding AreAt reruns_of
at-reruns rs [] h = tt
at-reruns rs (i ∷ history) h = put_rerun-all (IsOwn rs) (record { place = length history; item = i }) (reruns_of history) h.0 (at-reruns rs history h.1)

own_more : (r : Rerun) (rs xs : List Rerun) → AllByRecursion (λ p. r.place ≡ p.place → ⊥) (map place_of xs) → AllByRecursion (IsOwn rs) xs → AllByRecursion (IsOwn (r ∷ rs)) xs
unfolding item_or
own_more r rs [] h k = tt
own_more r rs (x ∷ xs) h k = (rw (ne_eqb r.place x.place h.0) k.0, own_more r rs xs h.1 k.1)

own : (rs : List Rerun) → AreApart (map place_of rs) → AllByRecursion (IsOwn rs) rs
unfolding item_or
own [] h = tt
own (r ∷ rs) h = (rw (eq-eqb r.place r.place refl) refl, own_more r rs rs (apart_first (place_of r) (map place_of rs) h) (own rs (apart_rest (place_of r) (map place_of rs) h)))

-- finishes at the same places, with the same entries, are the same
same_reruns : (rs xs ys : List Rerun) → map place_of xs ≡ map place_of ys → AllByRecursion (IsOwn rs) xs → AllByRecursion (IsOwn rs) ys → xs ≡ ys
same_reruns rs [] [] e h k = refl
same_reruns rs [] (y ∷ ys) e h k = absurd (cc e)
same_reruns rs (x ∷ xs) [] e h k = absurd (cc e)
same_reruns rs (x ∷ xs) (y ∷ ys) e h k =
    let first : place_of x ≡ place_of y = cc e in
    let rest : map place_of xs ≡ map place_of ys = cc e in
    let item : x.item ≡ y.item = h.0 ∙ ap (λ (p : Place). item_or p.entry p.place rs) first ∙ sym k.0 in
    let same : x ≡ y = ap₂ (λ (n : ℕ) (i : FinishRecord). let r : Rerun = record { place = n; item = i } in r) (ap (λ (p : Place). p.place) first) item in
    ap₂ (λ (z : Rerun) (zs : List Rerun). z ∷ zs) same (same_reruns rs xs ys rest h.1 k.1)

-- the history of a good replay
module _ (whole : Programs) (base : DeviceState) (entries : List Entry) (f : DeviceState) (a : AreSerial whole base entries f) where
  found : (map place_of a.reruns ≡ entry_order entries) × Replays whole (tables_of base) (map (λ r. r.item) a.reruns)
  found = of_replay whole (tables_of base) (entry_order entries) a.reruns a.good

  apart : AreApart (map place_of a.reruns)
  apart = subst AreApart (sym found.0) (apart_permutation (places_from 0 entries) (entry_order entries) (order-permutation (places_from 0 entries)) (places_apart 0 entries))

  fit : Fit (map place_of a.reruns) 0 entries
  fit = subst (λ (ps : List Place). Fit ps 0 entries) (sym found.0) (fit_permutation (places_from 0 entries) (entry_order entries) 0 entries (order-permutation (places_from 0 entries)) (fit_places 0 entries))

  history : List FinishRecord
  history = history_with a.reruns [] entries

  lists : listing history ≡ entries
  unfolding history
  lists = listing-with a.reruns [] 0 entries refl fit

  same : reruns_of history ≡ a.reruns
  unfolding history AreAt
  same = same_reruns a.reruns (reruns_of history) a.reruns (places-reruns history ∙ ap entry_order lists ∙ sym found.0) (at-reruns a.reruns history (at-with a.reruns [] 0 entries refl fit tt)) (own a.reruns apart)

  items : map (λ r. r.item) a.reruns ≡ serial_order history
  items = ap (map (λ r. r.item)) (sym same) ∙ items-reruns history

  pub are_serial : Serial whole base entries f
  are_serial = record {
    history = history;
    entries_are = lists;
    replays = subst (Replays whole (tables_of base)) items found.1;
    numbered = numbered_by a.reruns base history (λ k l. ap (spawns_at k) (sym same)) (subst (NumbersFollow base.number) (sym lists) a.numbers) (subst (ChildrenFollow a.reruns 0 base.next) (sym lists) a.children);
    objects = a.leaves.objects ∙ ap (λ (is : List FinishRecord). (after_all is (tables_of base)).objects) items;
    tasks = λ id. a.leaves.tasks id ∙ ap (λ (is : List FinishRecord). (after_all is (tables_of base)).tasks id) items;
    by_id = a.leaves.by_id;
    clock = a.leaves.clock ∙ ap (latest base.clock) (sym lists) ∙ latest-clock base history;
    number = omega (arith, a.leaves.number, ap length lists, length-listing history);
    next = omega (arith, a.leaves.next, next_id-reruns base history, ap (sum_by spawns_of) same);
  }

-- the finish at a place of a history
item-same : (e : Entry) (r : Rerun) (xs : List Rerun) → AllByRecursion (λ x. x.place < r.place) xs → item_or e r.place (put_rerun r xs) ≡ r.item
unfolding put_rerun item_or
item-same e r [] h = rw (eq-eqb r.place r.place refl) refl
item-same e r (x ∷ xs) h = go (item-same e r xs h.1) (precedes r.item x.item)
  where
    go : item_or e r.place (put_rerun r xs) ≡ r.item → (b : Bool) → item_or e r.place (cond b (r ∷ x ∷ xs) (x ∷ put_rerun r xs)) ≡ r.item
    go rest true = rw (eq-eqb r.place r.place refl) refl
    go rest false = rw (ne_eqb x.place r.place (λ f. omega (arith, f, h.0))) rest

item-other : (e : Entry) (k : ℕ) (r : Rerun) (xs : List Rerun) → (r.place ≡ k → ⊥) → item_or e k (put_rerun r xs) ≡ item_or e k xs
unfolding put_rerun item_or
item-other e k r [] ne = rw (ne_eqb r.place k ne) refl
item-other e k r (x ∷ xs) ne = go (item-other e k r xs ne) (precedes r.item x.item)
  where
    go : item_or e k (put_rerun r xs) ≡ item_or e k xs → (b : Bool) → item_or e k (cond b (r ∷ x ∷ xs) (x ∷ put_rerun r xs)) ≡ item_or e k (x ∷ xs)
    go rest true = rw (ne_eqb r.place k ne) refl
    go rest false = rw rest refl

at_own : (rs : List Rerun) (history : List FinishRecord) → ((e : Entry) (k : ℕ) → k < length history → item_or e k rs ≡ item_or e k (reruns_of history)) → AreAt rs history
unfolding AreAt reruns_of
at_own rs [] h = tt
at_own rs (i ∷ history) h = (
  sym (h (entry_of i) (length history) (omega arith) ∙ item-same (entry_of i) (record { place = length history; item = i }) (reruns_of history) (reruns_below history)),
  at_own rs history (λ e k l. h e k (omega (arith, l)) ∙ item-other e k (record { place = length history; item = i }) (reruns_of history) (λ f. omega (arith, f, l))),
)

same_at : (rs : List Rerun) (g h : List FinishRecord) → AreAt rs g → AreAt rs h → map entry_of g ≡ map entry_of h → g ≡ h
unfolding AreAt
same_at rs [] [] a b e = refl
same_at rs [] (j ∷ h) a b e = absurd (cc e)
same_at rs (i ∷ g) [] a b e = absurd (cc e)
same_at rs (i ∷ g) (j ∷ h) a b e =
    let first : entry_of i ≡ entry_of j = cc e in
    let rest : g ≡ h = same_at rs g h a.1 b.1 (cc e) in
    ap₂ (λ (x : FinishRecord) (xs : List FinishRecord). x ∷ xs) (a.0 ∙ ap₂ (λ (x : Entry) (n : ℕ). item_or x n rs) first (ap length rest) ∙ sym b.0) rest

pub one_history : (whole : Programs) (base : DeviceState) (entries : List Entry) (f g : DeviceState) (s : Serial whole base entries f) (t : Serial whole base entries g) → s.history ≡ t.history
one_history whole base entries f g s t =
    same_at (reruns_of s.history) s.history t.history (at_own (reruns_of s.history) s.history (λ e k l. refl)) (at_own (reruns_of s.history) t.history (λ e k l. ap (item_or e k) same)) (same_entries s.history t.history (s.entries_are ∙ sym t.entries_are))
  where
    same : reruns_of s.history ≡ reruns_of t.history
    same =
        let e : Good (reruns_of s.history) ≡ Good (reruns_of t.history) =
        sym (replayed_history whole base s.history s.replays) ∙ ap (replay whole base) (s.entries_are ∙ sym t.entries_are) ∙ replayed_history whole base t.history t.replays
        in cc e

pub none_serial : (whole : Programs) (base : DeviceState) (entries : List Entry) (place : ℕ) (f : DeviceState) → replay whole base entries ≡ Wrong place → Serial whole base entries f → ⊥
none_serial whole base entries place f h s = let k : Wrong place ≡ Good (serial_are whole base entries f s).reruns = sym h ∙ (serial_are whole base entries f s).good in cc k
