-- The turns of a replay, one entry after another, and its end.
use Rattle.std.proofs.Common.{◌≡◌, ℕ, zero, suc, ◌+◌, ◌*◌, ◌<◌, ◌≤◌, Bool, true, false, cond, eqb, max, List, [], ◌∷◌, ◌++◌, length, length-append, map, take, drop, set, get_or, get_or-set_same, get_or-set_other, replicate, slice_get, Option, Some, None, refl, sym, ap, ◌∙◌, subst, arith}
use Rattle.std.specs.List.{All, sum_by}
use Rattle.std.specs.Option.{IfSome}
use Rattle.std.proofs.Math.Seq.{drop-cons}
use Rattle.std.proofs.lemmas.Bool.{eqb-true, eqb-false}
use Rattle.std.proofs.lemmas.List.{get_or-map, length-map, length-take-le, map-append, take-append-drop, take_more}
use Rattle.std.proofs.lemmas.List.Sums.{sum_by-append, sum_by-cons}
use Rattle.kernel_model.specs.Effects.{Programs}
use Rattle.kernel_model.specs.Items.{Entry, FinishRecord}
use Rattle.kernel_model.specs.Replay.{Tables, after, tables_of}
use Rattle.kernel_model.specs.EntryReplay.{Place, Rerun, Good, Wrong, after_reruns, entry_order, item_on, latest, replayed_on, spawns_at}
use Rattle.nv_base.specs.declared.lines.Entry as base
use Rattle.set_model.specs.Sets.{TaskSet}
use Rattle.set_model.specs.Formatted.{formatted}
use Rattle.set_model.specs.Views.{entry_of}
use Rattle.task_model.specs.Finals.{AreSpawnsOf, runs_of}
use Rattle.task_model.specs.Tables.{AreFit, TakesTurn, tables_seen}
use Rattle.task_model.specs.Replaying.{GoesOn, HasReplayed}
use Rattle.task_model.specs.Turns.{IsTurnOf, entry_at, place_at}
use Rattle.task_model.specs.declared.turns.Turn.{Turn}
use Rattle.task_model.specs.declared.replaying.Replaying.{Replaying}

-- what the kernel's model says of the next entry
abbrev pub ReplayLaw : Type 0
ReplayLaw = (whole : Programs) (t : Tables) (done rest : List Place) (p : Place) (reruns : List Rerun) → replayed_on whole t done ≡ Good reruns
    → ((i : FinishRecord) → item_on whole (after_reruns reruns t) p.entry ≡ Some i
    → (replayed_on whole t (done ++ p ∷ []) ≡ Good (reruns ++ record { place = p.place; item = i } ∷ [])) × (after_reruns (reruns ++ record { place = p.place; item = i } ∷ []) t ≡ after i (after_reruns reruns t)))
    × (item_on whole (after_reruns reruns t) p.entry ≡ None → replayed_on whole t (done ++ p ∷ rest) ≡ Wrong p.place)

abbrev pub PlaceLaw : Type 0
PlaceLaw = (whole : Programs) (t : Tables) (entries : List Entry) (done rest : List Place) (p : Place) (reruns : List Rerun) → entry_order entries ≡ done ++ p ∷ rest → replayed_on whole t done ≡ Good reruns
    → (slice_get entries p.place ≡ Some p.entry) × (spawns_at p.place reruns ≡ 0)
    × ((i : FinishRecord) (k : ℕ) → spawns_at k (reruns ++ record { place = p.place; item = i } ∷ []) ≡ cond (eqb p.place k) (length i.run.spawns) (spawns_at k reruns))

pub takes_none : (s : TaskSet) (old new : Tables) (e : Entry) (r : Option ℕ) → TakesTurn s old new e r → ((x : ℕ) → r ≡ Some x → ⊥) → item_on (runs_of s) old e ≡ None
takes_none s old new e None h k = h
takes_none s old new e (Some x) h k = absurd (k x refl)

pub takes_some : (s : TaskSet) (old new : Tables) (e : Entry) (r : Option ℕ) (x : ℕ) → TakesTurn s old new e r → r ≡ Some x → TakesTurn s old new e (Some x)
takes_some s old new e r x h k = subst (TakesTurn s old new e) k h

pub at_some : (P : ℕ → Type 0) (r : Option ℕ) (x : ℕ) → IfSome r P → r ≡ Some x → P x
at_some P None x h e = absurd (cc e)
at_some P (Some y) x h e = let same : y ≡ x = cc e in subst P same h

-- the entry has no finish
pub ends_here : ReplayLaw → (s : TaskSet) (done rest : List Place) (p : Place) (reruns : List Rerun) (r : Replaying) (e : Entry) → p.entry ≡ e → HasReplayed s done reruns r → item_on (runs_of s) (tables_seen r.tables) e ≡ None
    → replayed_on (runs_of s) (tables_of (formatted s)) (done ++ p ∷ rest) ≡ Wrong p.place
ends_here law s done rest p reruns r e at h n =
    let P : Tables → Type 0 = λ t. item_on (runs_of s) t e ≡ None in
    let Q : Entry → Type 0 = λ x. item_on (runs_of s) (after_reruns reruns (tables_of (formatted s))) x ≡ None in
    (law (runs_of s) (tables_of (formatted s)) done rest p reruns h.good).1 (subst Q (sym at) (subst P h.tables n))

noted : (counts : List ℕ) (place n : ℕ) (reruns : List Rerun) (i : FinishRecord) (k : ℕ) → place < length counts → n ≡ length i.run.spawns → AreSpawnsOf counts reruns → get_or (set counts place n) k 0 ≡ cond (eqb place k) (length i.run.spawns) (spawns_at k reruns)
noted counts place n reruns i k l same h = go (eqb place k) refl
  where
    go : (b : Bool) → eqb place k ≡ b → get_or (set counts place n) k 0 ≡ cond b (length i.run.spawns) (spawns_at k reruns)
    go true e = let here : place ≡ k = eqb-true place k e in ap (λ j. get_or (set counts place n) j 0) (sym here) ∙ get_or-set_same counts place n 0 l ∙ same
    go false e = get_or-set_other counts place k n 0 (λ f. eqb-false place k e (sym f)) ∙ h k

sum_by-one : (f : Rerun → ℕ) (r : Rerun) → sum_by f (r ∷ []) ≡ f r
sum_by-one f r = sum_by-cons f r [] ∙ (omega arith)

-- the entry has one
pub goes_on : ReplayLaw → PlaceLaw → (s : TaskSet) (entries : List Entry) (done rest : List Place) (p : Place) (reruns : List Rerun) (old new : Replaying) (e : Entry) (n : ℕ) → entry_order entries ≡ done ++ p ∷ rest → p.entry ≡ e → HasReplayed s done reruns old
    → TakesTurn s (tables_seen old.tables) (tables_seen new.tables) e (Some n) → p.place < length old.spawned → new.spawned ≡ set old.spawned p.place n → new.next ≡ old.next + n → n ≤ 8 → AreFit s (tables_seen new.tables) → length new.machine.memory ≡ s.memory
    → (x : List Rerun) × HasReplayed s (done ++ p ∷ []) x new
goes_on law places s entries done rest p reruns old new e n order at h turn inside counts next few fit memory =
    let start = tables_of (formatted s) in
    let i = turn.0 in
    let r : Rerun = record { place = p.place; item = i } in
    let P : Tables → Type 0 = λ t. item_on (runs_of s) t e ≡ Some i in
    let Q : Entry → Type 0 = λ x. item_on (runs_of s) (after_reruns reruns start) x ≡ Some i in
    let found = subst Q (sym at) (subst P h.tables turn.1) in
    let step = (law (runs_of s) start done rest p reruns h.good).0 i found in
    let place = (places (runs_of s) start entries done rest p reruns order h.good).2 in
    let f : Rerun → ℕ = λ x. length x.item.run.spawns in (
      reruns ++ r ∷ [],
      record {
        good = step.0;
        tables = turn.2 ∙ ap (after i) h.tables ∙ sym step.1;
        spawned = λ k. ap (λ cs. get_or cs k 0) counts ∙ noted old.spawned p.place n reruns i k inside turn.3 h.spawned ∙ sym (place i k);
        next = omega (arith, next, h.next, turn.3, sum_by-append f reruns (r ∷ []), sum_by-one f r);
        few = omega (arith, next, h.few, few, length-append done (p ∷ []));
        fit = fit;
        memory = memory;
      },
    )

-- the greatest point
latest-max : (c p : ℕ) (entries : List Entry) → latest (max c p) entries ≡ max p (latest c entries)
latest-max c p [] = omega arith
latest-max c p (e ∷ entries) = ap (max e.point) (latest-max c p entries) ∙ (omega arith)

pub latest_more : (c i : ℕ) (listing : List base.Entry) (d : base.Entry) → i < length listing → latest c (map entry_of (drop i listing)) ≡ latest (max c (get_or listing i d).point.0) (map entry_of (drop (i + 1) listing))
latest_more c i listing d l =
    let z : suc i ≡ i + 1 = omega arith in
    ap (λ es. latest c (map entry_of es)) (drop-cons listing i d l) ∙ sym (latest-max c (get_or listing i d).point.0 (map entry_of (drop (suc i) listing)))
    ∙ ap (λ j. latest (max c (get_or listing i d).point.0) (map entry_of (drop j listing))) z

-- none spawned
pub none_at : (n k : ℕ) → (let none : ℕ = 0 in get_or (replicate n none) k none ≡ none)
none_at zero k = refl
none_at (suc n) zero = refl
none_at (suc n) (suc k) = none_at n k

-- the serial order from a turn on
pub order_at : (entries : List Entry) (items : List Turn) (i : ℕ) (d : Turn) → i < length items → map (place_at entries) items ≡ entry_order entries
    → entry_order entries ≡ map (place_at entries) (take i items) ++ place_at entries (get_or items i d) ∷ map (place_at entries) (drop (suc i) items)
order_at entries items i d l h =
    sym h ∙ ap (map (place_at entries)) (sym (take-append-drop i items) ∙ ap (λ xs. take i items ++ xs) (drop-cons items i d l)) ∙ map-append (place_at entries) (take i items) (get_or items i d ∷ drop (suc i) items)

pub turn_after : (entries : List Entry) (items : List Turn) (i : ℕ) (d : Turn) → i < length items → map (place_at entries) (take i items) ++ place_at entries (get_or items i d) ∷ [] ≡ map (place_at entries) (take (i + 1) items)
turn_after entries items i d l = sym (ap (map (place_at entries)) (take_more items i d l) ∙ map-append (place_at entries) (take i items) (get_or items i d ∷ []))

pub went_wrong : (s : TaskSet) (entries : List Entry) (items : List Turn) (i : ℕ) (d : Turn) (r : Replaying) (b : Bool) → i < length items → map (place_at entries) items ≡ entry_order entries
    → GoesOn s (map (place_at entries) (take i items)) (map (place_at entries) (drop (suc i) items)) (place_at entries (get_or items i d)) r b → b ≡ false → replayed_on (runs_of s) (tables_of (formatted s)) (entry_order entries) ≡ Wrong (get_or items i d).place
went_wrong s entries items i d r b l h w e =
    let done = map (place_at entries) (take i items) in
    let rest = map (place_at entries) (drop (suc i) items) in
    ap (replayed_on (runs_of s) (tables_of (formatted s))) (order_at entries items i d l h) ∙ subst (GoesOn s done rest (place_at entries (get_or items i d)) r) e w

pub went_on : (s : TaskSet) (entries : List Entry) (items : List Turn) (i : ℕ) (d : Turn) (r : Replaying) (b : Bool) → i < length items
    → GoesOn s (map (place_at entries) (take i items)) (map (place_at entries) (drop (suc i) items)) (place_at entries (get_or items i d)) r b → b ≡ true → (x : List Rerun) × HasReplayed s (map (place_at entries) (take (i + 1) items)) x r
went_on s entries items i d r b l w e =
    let done = map (place_at entries) (take i items) in
    let rest = map (place_at entries) (drop (suc i) items) in
    let h = subst (GoesOn s done rest (place_at entries (get_or items i d)) r) e w in
    let P : List Place → Type 0 = λ ps. HasReplayed s ps h.0 r in
    (h.0, subst P (turn_after entries items i d l) h.1)

-- the entry of a turn
pub entry_of_turn : (listing : List base.Entry) (items others : List Turn) (i : ℕ) (d : Turn) (e : base.Entry) → items ≡ others → All (IsTurnOf (map entry_of listing)) others → i < length items → entry_at (map entry_of listing) (get_or items i d).place ≡ entry_of (get_or listing (get_or items i d).place e)
entry_of_turn listing items others i d e same each l =
    let turn : IsTurnOf (map entry_of listing) (get_or items i d) = subst (All (IsTurnOf (map entry_of listing))) (sym same) each i d l in
    get_or-map entry_of listing (get_or items i d).place e _ (omega (arith, turn.inside, length-map listing entry_of))

-- the ids that are left
pub ids_left : (s : TaskSet) (entries : List Entry) (items : List Turn) (i : ℕ) (reruns : List Rerun) (r : Replaying) → HasReplayed s (map (place_at entries) (take i items)) reruns r → i ≤ length items → r.next ≤ (formatted s).next + 8 * i
ids_left s entries items i reruns r h l = let n = length-map (take i items) (place_at entries) in let m = length-take-le i items l in omega (arith, h.few, n, m)
