-- The replay of serial entries is good, with the numbers and ids that they name.
use Rattle.std.proofs.Common.{◌≡◌, ℕ, ◌+◌, ◌<◌, Bool, true, false, cond, max, List, [], ◌∷◌, ◌++◌, length, refl, sym, ap, ap₂, ◌∙◌, subst, arith, sum_by}
use Rattle.std.specs.List.{AllByRecursion}
use Rattle.std.proofs.lemmas.Bool.{eq-eqb, ne_eqb}
use Rattle.std.proofs.lemmas.List.Sums.{sum_by-cons}
use Rattle.kernel_model.specs.Effects.{Programs}
use Rattle.kernel_model.specs.Items.{Entry, FinishRecord, entry_of, listing, precedes, serial_order}
use Rattle.kernel_model.specs.Replay.{AreNumbered, DeviceState, Replays, Tables, after_all, clock_of, next_id, tables_of}
use Rattle.kernel_model.specs.Serial.{Serial}
use Rattle.kernel_model.specs.EntryReplay.{AreSerial, ChildrenFollow, Good, NumbersFollow, Rerun, after_reruns, latest, replay, replayed_on, spawns_at}
use Rattle.kernel_model.proofs.Reruns.{length-listing, items-reruns, places-reruns, put_rerun, reruns_below, reruns_of, spawns_of}
use Rattle.kernel_model.proofs.EntryItems.{replay_of}

-- the finish at a place spawns as many tasks as the replay says
count-same : (r : Rerun) (xs : List Rerun) → AllByRecursion (λ x. x.place < r.place) xs → spawns_at r.place (put_rerun r xs) ≡ spawns_of r
unfolding put_rerun
count-same r [] h = rw (eq-eqb r.place r.place refl) refl
count-same r (x ∷ xs) h = go (count-same r xs h.1) (precedes r.item x.item)
  where
    go : spawns_at r.place (put_rerun r xs) ≡ spawns_of r → (b : Bool) → spawns_at r.place (cond b (r ∷ x ∷ xs) (x ∷ put_rerun r xs)) ≡ spawns_of r
    go rest true = rw (eq-eqb r.place r.place refl) refl
    go rest false = rw (ne_eqb x.place r.place (λ e. omega (arith, e, h.0))) rest

count-other : (k : ℕ) (r : Rerun) (xs : List Rerun) → (r.place ≡ k → ⊥) → spawns_at k (put_rerun r xs) ≡ spawns_at k xs
unfolding put_rerun
count-other k r [] ne = rw (ne_eqb r.place k ne) refl
count-other k r (x ∷ xs) ne = go (count-other k r xs ne) (precedes r.item x.item)
  where
    go : spawns_at k (put_rerun r xs) ≡ spawns_at k xs → (b : Bool) → spawns_at k (cond b (r ∷ x ∷ xs) (x ∷ put_rerun r xs)) ≡ spawns_at k (x ∷ xs)
    go rest true = rw (ne_eqb r.place k ne) refl
    go rest false = rw rest refl

-- these reruns spawn as many tasks as the history does, at its places
abbrev Agree : List Rerun → List FinishRecord → Type 0
Agree rs history = (k : ℕ) → k < length history → spawns_at k rs ≡ spawns_at k (reruns_of history)

agree_last : (rs : List Rerun) (i : FinishRecord) (history : List FinishRecord) → Agree rs (i ∷ history) → spawns_at (length history) rs ≡ length i.run.spawns
unfolding reruns_of
agree_last rs i history h = h (length history) (omega arith) ∙ count-same (record { place = length history; item = i }) (reruns_of history) (reruns_below history)

agree_older : (rs : List Rerun) (i : FinishRecord) (history : List FinishRecord) → Agree rs (i ∷ history) → Agree rs history
unfolding reruns_of
agree_older rs i history h k l = h k (omega (arith, l)) ∙ count-other k (record { place = length history; item = i }) (reruns_of history) (λ e. omega (arith, e, l))

-- the next id after some entries
ends : List Rerun → (place next : ℕ) → List Entry → ℕ
ends rs place next [] = next
ends rs place next (e ∷ entries) = ends rs (place + 1) (next + spawns_at place rs) entries

ends-append : (rs : List Rerun) (place next : ℕ) (xs : List Entry) (e : Entry) → ends rs place next (xs ++ e ∷ []) ≡ ends rs place next xs + spawns_at (place + length xs) rs
unfolding ends
ends-append rs place next [] e = let z : place + 0 ≡ place = omega arith in rw z refl
ends-append rs place next (x ∷ xs) e = let z : place + 1 + length xs ≡ place + length (x ∷ xs) = omega arith in ends-append rs (place + 1) (next + spawns_at place rs) xs e ∙ ap (λ n. ends rs (place + 1) (next + spawns_at place rs) xs + spawns_at n rs) z

ends-next_id : (rs : List Rerun) (base : DeviceState) (history : List FinishRecord) → Agree rs history → ends rs 0 base.next (listing history) ≡ next_id base history
unfolding ends
ends-next_id rs base [] h = refl
ends-next_id rs base (i ∷ history) h =
    ends-append rs 0 base.next (listing history) (entry_of i)
    ∙ ap₂ (λ (m n : ℕ). m + n) (ends-next_id rs base history (agree_older rs i history h))
    (let z : 0 + length (listing history) ≡ length history = omega (arith, length-listing history) in ap (λ n. spawns_at n rs) z ∙ agree_last rs i history h)

-- one more entry has the next number, and its first child the next id
numbers-append : (n : ℕ) (xs : List Entry) (e : Entry) → NumbersFollow n xs → e.number ≡ n + length xs + 1 → NumbersFollow n (xs ++ e ∷ [])
numbers-append n [] e h k = (omega (arith, k), tt)
numbers-append n (x ∷ xs) e h k = (h.0, numbers-append (n + 1) xs e h.1 (omega (arith, k)))

append-numbers : (n : ℕ) (xs : List Entry) (e : Entry) → NumbersFollow n (xs ++ e ∷ []) → NumbersFollow n xs × (e.number ≡ n + length xs + 1)
append-numbers n [] e h = (tt, omega (arith, h.0))
append-numbers n (x ∷ xs) e h = let k = append-numbers (n + 1) xs e h.1 in ((h.0, k.0), omega (arith, k.1))

children-append : (rs : List Rerun) (place next : ℕ) (xs : List Entry) (e : Entry) → ChildrenFollow rs place next xs → e.first ≡ ends rs place next xs → ChildrenFollow rs place next (xs ++ e ∷ [])
unfolding ends
children-append rs place next [] e h k = (k, tt)
children-append rs place next (x ∷ xs) e h k = (h.0, children-append rs (place + 1) (next + spawns_at place rs) xs e h.1 k)

append-children : (rs : List Rerun) (place next : ℕ) (xs : List Entry) (e : Entry) → ChildrenFollow rs place next (xs ++ e ∷ []) → ChildrenFollow rs place next xs × (e.first ≡ ends rs place next xs)
unfolding ends
append-children rs place next [] e h = (tt, h.0)
append-children rs place next (x ∷ xs) e h = let k = append-children rs (place + 1) (next + spawns_at place rs) xs e h.1 in ((h.0, k.0), k.1)

-- a numbered history gives numbered entries, and back
follows : (rs : List Rerun) (base : DeviceState) (history : List FinishRecord) → Agree rs history → AreNumbered base history → NumbersFollow base.number (listing history) × ChildrenFollow rs 0 base.next (listing history)
follows rs base [] h n = (tt, tt)
follows rs base (i ∷ history) h n =
    let rest = follows rs base history (agree_older rs i history h) n.2 in (
      numbers-append base.number (listing history) (entry_of i) rest.0 (omega (arith, n.0, length-listing history)),
      children-append rs 0 base.next (listing history) (entry_of i) rest.1 (n.1 ∙ sym (ends-next_id rs base history (agree_older rs i history h))),
    )

pub numbered_by : (rs : List Rerun) (base : DeviceState) (history : List FinishRecord) → Agree rs history → NumbersFollow base.number (listing history) → ChildrenFollow rs 0 base.next (listing history) → AreNumbered base history
numbered_by rs base [] h n c = tt
numbered_by rs base (i ∷ history) h n c =
    let k = append-numbers base.number (listing history) (entry_of i) n in
    let l = append-children rs 0 base.next (listing history) (entry_of i) c in
    (omega (arith, k.1, length-listing history), l.1 ∙ ends-next_id rs base history (agree_older rs i history h), numbered_by rs base history (agree_older rs i history h) k.0 l.0)

-- the other numbers of the state
spawns-put : (r : Rerun) (xs : List Rerun) → sum_by spawns_of (put_rerun r xs) ≡ spawns_of r + sum_by spawns_of xs
unfolding put_rerun
spawns-put r [] = sum_by-cons spawns_of r []
spawns-put r (x ∷ xs) = go (spawns-put r xs) (precedes r.item x.item)
  where
    go : sum_by spawns_of (put_rerun r xs) ≡ spawns_of r + sum_by spawns_of xs → (b : Bool) → sum_by spawns_of (cond b (r ∷ x ∷ xs) (x ∷ put_rerun r xs)) ≡ spawns_of r + sum_by spawns_of (x ∷ xs)
    go rest true = sum_by-cons spawns_of r (x ∷ xs)
    go rest false = omega (arith, rest, sum_by-cons spawns_of x (put_rerun r xs), sum_by-cons spawns_of x xs)

pub next_id-reruns : (base : DeviceState) (history : List FinishRecord) → next_id base history ≡ base.next + sum_by spawns_of (reruns_of history)
unfolding reruns_of
next_id-reruns base [] = omega arith
next_id-reruns base (i ∷ history) = omega (arith, next_id-reruns base history, spawns-put (record { place = length history; item = i }) (reruns_of history))

latest-append : (clock : ℕ) (xs : List Entry) (e : Entry) → latest clock (xs ++ e ∷ []) ≡ max e.point (latest clock xs)
latest-append clock [] e = refl
latest-append clock (x ∷ xs) e = omega (arith, latest-append clock xs e)

pub latest-clock : (base : DeviceState) (history : List FinishRecord) → latest base.clock (listing history) ≡ clock_of base history
latest-clock base [] = refl
latest-clock base (i ∷ history) = latest-append base.clock (listing history) (entry_of i) ∙ ap (max i.point) (latest-clock base history)

-- the replay of a serial listing
pub replayed_history : (whole : Programs) (base : DeviceState) (history : List FinishRecord) → Replays whole (tables_of base) (serial_order history) → replay whole base (listing history) ≡ Good (reruns_of history)
replayed_history whole base history h =
    ap (replayed_on whole (tables_of base)) (sym (places-reruns history)) ∙ replay_of whole (tables_of base) (reruns_of history) (subst (Replays whole (tables_of base)) (sym (items-reruns history)) h)

tables-reruns : (base : DeviceState) (history : List FinishRecord) → after_reruns (reruns_of history) (tables_of base) ≡ after_all (serial_order history) (tables_of base)
tables-reruns base history = ap (λ (is : List FinishRecord). after_all is (tables_of base)) (items-reruns history)

pub serial_are : (whole : Programs) (base : DeviceState) (entries : List Entry) (f : DeviceState) → Serial whole base entries f → AreSerial whole base entries f
serial_are whole base entries f s = subst (λ (x : List Entry). AreSerial whole base x f) s.entries_are (record {
  reruns = reruns_of s.history;
  good = replayed_history whole base s.history s.replays;
  numbers = n.0;
  children = n.1;
  leaves = record {
    objects = s.objects ∙ ap (λ (t : Tables). t.objects) (sym (tables-reruns base s.history));
    tasks = λ id. s.tasks id ∙ ap (λ (t : Tables). t.tasks id) (sym (tables-reruns base s.history));
    by_id = s.by_id;
    clock = s.clock ∙ sym (latest-clock base s.history);
    number = omega (arith, s.number, length-listing s.history);
    next = s.next ∙ next_id-reruns base s.history;
  };
})
  where
    n : NumbersFollow base.number (listing s.history) × ChildrenFollow (reruns_of s.history) 0 base.next (listing s.history)
    n = follows (reruns_of s.history) base s.history (λ k l. refl) s.numbered
