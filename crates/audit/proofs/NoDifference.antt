-- A report has no difference exactly where its listing is serial and leaves what it tells.
use Rattle.std.proofs.Common.{◌≡◌, ℕ, ◌+◌, ◌<◌, Bool, true, false, cond, eqb, List, [], ◌∷◌, ◌++◌, length, map, get_or, slice_get, Option, Some, None, refl, sym, ap, ap₂, ◌∙◌, subst, arith}
use Rattle.std.specs.Prelude.{◌&&◌, nat_eq}
use Rattle.std.specs.Option.{option_map, option_or}
use Rattle.std.specs.Cmp.Lexicographic.{pointwise}
use Rattle.std.proofs.lemmas.Bool.{eq-eqb, eqb-true, and_parts}
use Rattle.std.proofs.lemmas.List.{length-map}
use Rattle.std.proofs.lemmas.Option.{slice_get_within, slice_get-get_or}
use Rattle.plain_text.proofs.ForCallers.{same_bytes}
use Rattle.kernel_model.specs.Effects.{Exit, Objects, Programs}
use Rattle.kernel_model.specs.Items.{Entry, FinishRecord}
use Rattle.kernel_model.specs.Replay.{DeviceState, Tables, TaskRec, tables_of}
use Rattle.kernel_model.specs.Serial.{Serial}
use Rattle.kernel_model.specs.EntryReplay.{AreSerial, ChildrenFollow, Good, Leaves, NumbersFollow, Place, Replayed, Rerun, Wrong, after_reruns, entry_order, item_on, replay, replayed_on, spawns_at}
use Rattle.set_model.specs.Sets.{TaskSet}
use Rattle.set_model.specs.Formatted.{formatted}
use Rattle.report_text.specs.Reports.{Listed, Report}
use Rattle.task_model.specs.Finals.{runs_of}
use Rattle.audit.specs.Differences.{DiffersBy, DiffersUnless, IsFirstDifference, IsSerialReport, entries_of, line_at, same_task, unlike_from, wrong_end, wrong_first, wrong_number, wrong_state}

-- what the kernel's model says of replays
abbrev pub WrongLaw : Type 0
WrongLaw = (whole : Programs) (base : DeviceState) (entries : List Entry) (place : ℕ) → replay whole base entries ≡ Wrong place
    → (done : List Place) × (rest : List Place) × (p : Place) × (reruns : List Rerun) × (entry_order entries ≡ done ++ p ∷ rest) × (p.place ≡ place) × (replayed_on whole (tables_of base) done ≡ Good reruns) × (item_on whole (after_reruns reruns (tables_of base)) p.entry ≡ None)

abbrev pub PlaceLaw : Type 0
PlaceLaw = (whole : Programs) (t : Tables) (entries : List Entry) (done rest : List Place) (p : Place) (reruns : List Rerun) → entry_order entries ≡ done ++ p ∷ rest → replayed_on whole t done ≡ Good reruns
    → (slice_get entries p.place ≡ Some p.entry) × (spawns_at p.place reruns ≡ 0)
    × ((i : FinishRecord) (k : ℕ) → spawns_at k (reruns ++ record { place = p.place; item = i } ∷ []) ≡ cond (eqb p.place k) (length i.run.spawns) (spawns_at k reruns))

abbrev pub SerialLaw : Type 0
SerialLaw = (whole : Programs) (base : DeviceState) (entries : List Entry) (f : DeviceState) → AreSerial whole base entries f → Serial whole base entries f

abbrev pub ReplayedLaw : Type 0
ReplayedLaw = (whole : Programs) (base : DeviceState) (entries : List Entry) (f : DeviceState) → Serial whole base entries f → AreSerial whole base entries f

abbrev pub OneStateLaw : Type 0
OneStateLaw = (base : DeviceState) (entries : List Entry) (reruns : List Rerun) (f g : DeviceState) → Leaves base entries reruns f → Leaves base entries reruns g → f ≡ g

-- a wrong place is one of the listing
pub wrong_inside : WrongLaw → PlaceLaw → (whole : Programs) (base : DeviceState) (entries : List Entry) (place : ℕ) → replay whole base entries ≡ Wrong place → place < length entries
wrong_inside wrong places whole base entries place h =
    let w = wrong whole base entries place h in
    let at = (places whole (tables_of base) entries w.0 w.1 w.2 w.3 w.4 w.6).0 in
    subst (λ k. k < length entries) w.5 (slice_get_within entries w.2.place w.2.entry at)

pub line_there : (listing : List Listed) (place : ℕ) (d : Listed) → place < length listing → line_at listing place ≡ Some (get_or listing place d).line
line_there listing place d l = ap (option_map (λ (x : Listed). x.line)) (slice_get-get_or listing place d l)

-- numbers
numbers_from : (n : ℕ) (listing : List Listed) → wrong_number n listing ≡ None → NumbersFollow n (map (λ (l : Listed). l.entry) listing)
numbers_from n [] h = tt
numbers_from n (l ∷ listing) h = go (numbers_from (n + 1) listing) (eqb l.entry.number (n + 1)) refl h
  where
    go : (wrong_number (n + 1) listing ≡ None → NumbersFollow (n + 1) (map (λ (x : Listed). x.entry) listing)) → (b : Bool) → eqb l.entry.number (n + 1) ≡ b → cond b (wrong_number (n + 1) listing) (Some l.line) ≡ None
        → NumbersFollow n (map (λ (x : Listed). x.entry) (l ∷ listing))
    go rest true e f = (eqb-true l.entry.number (n + 1) e, rest f)
    go rest false e f = absurd (cc f)

no_wrong_number : (n : ℕ) (listing : List Listed) → NumbersFollow n (map (λ (l : Listed). l.entry) listing) → wrong_number n listing ≡ None
no_wrong_number n [] h = refl
no_wrong_number n (l ∷ listing) h = rw (eq-eqb l.entry.number (n + 1) h.0) (no_wrong_number (n + 1) listing h.1)

-- first children
children_from : (reruns : List Rerun) (place next : ℕ) (listing : List Listed) → wrong_first reruns place next listing ≡ None → ChildrenFollow reruns place next (map (λ (l : Listed). l.entry) listing)
children_from reruns place next [] h = tt
children_from reruns place next (l ∷ listing) h = go (children_from reruns (place + 1) (next + spawns_at place reruns) listing) (eqb l.entry.first next) refl h
  where
    later : ℕ
    later = next + spawns_at place reruns

    go : (wrong_first reruns (place + 1) (next + spawns_at place reruns) listing ≡ None → ChildrenFollow reruns (place + 1) (next + spawns_at place reruns) (map (λ (x : Listed). x.entry) listing)) → (b : Bool) → eqb l.entry.first next ≡ b
        → cond b (wrong_first reruns (place + 1) (next + spawns_at place reruns) listing) (Some l.line) ≡ None → ChildrenFollow reruns place next (map (λ (x : Listed). x.entry) (l ∷ listing))
    go rest true e f = (eqb-true l.entry.first next e, rest f)
    go rest false e f = absurd (cc f)

no_wrong_first : (reruns : List Rerun) (place next : ℕ) (listing : List Listed) → ChildrenFollow reruns place next (map (λ (l : Listed). l.entry) listing) → wrong_first reruns place next listing ≡ None
no_wrong_first reruns place next [] h = refl
no_wrong_first reruns place next (l ∷ listing) h = rw (eq-eqb l.entry.first next h.0) (no_wrong_first reruns (place + 1) (next + spawns_at place reruns) listing h.1)

-- lists
same_lists : {A : Type 0} (same : A → A → Bool) → ((x y : A) → same x y ≡ true → x ≡ y) → (line : ℕ) (xs ys : List A) → unlike_from same line xs ys ≡ None → xs ≡ ys
same_lists same means line [] [] h = refl
same_lists same means line [] (y ∷ ys) h = absurd (cc h)
same_lists same means line (x ∷ xs) [] h = absurd (cc h)
same_lists {A} same means line (x ∷ xs) (y ∷ ys) h = go (same_lists same means (line + 1) xs ys) (same x y) refl h
  where
    go : (unlike_from same (line + 1) xs ys ≡ None → xs ≡ ys) → (b : Bool) → same x y ≡ b → cond b (unlike_from same (line + 1) xs ys) (Some line) ≡ None → x ∷ xs ≡ y ∷ ys
    go rest true e f = ap₂ (λ (z : A) (zs : List A). z ∷ zs) (means x y e) (rest f)
    go rest false e f = absurd (cc f)

no_unlike : {A : Type 0} (same : A → A → Bool) → ((x : A) → same x x ≡ true) → (line : ℕ) (xs : List A) → unlike_from same line xs xs ≡ None
no_unlike same means line [] = refl
no_unlike same means line (x ∷ xs) = rw (means x) (no_unlike same means (line + 1) xs)

task_means : (t u : TaskRec) → same_task t u ≡ true → t ≡ u
task_means t u h =
    let p = and_parts (eqb t.id u.id) (eqb t.program u.program && eqb t.arg u.arg) h in
    let q = and_parts (eqb t.program u.program) (eqb t.arg u.arg) p.1 in
    let id : t.id ≡ u.id = eqb-true t.id u.id p.0 in
    let program : t.program ≡ u.program = eqb-true t.program u.program q.0 in
    let arg : t.arg ≡ u.arg = eqb-true t.arg u.arg q.1 in
    same_parts t.id u.id t.program u.program t.arg u.arg id program arg
  where
    same_parts : (i j p q a b : ℕ) → i ≡ j → p ≡ q → a ≡ b → (let x : TaskRec = record { id = i; program = p; arg = a } in let y : TaskRec = record { id = j; program = q; arg = b } in x ≡ y)
    same_parts i j p q a b e f g = rw (e, f, g) refl

task_same : (t : TaskRec) → same_task t t ≡ true
task_same t = rw (eq-eqb t.id t.id refl, eq-eqb t.program t.program refl, eq-eqb t.arg t.arg refl) refl

-- the state
pub or_parts : (a b : Option ℕ) → None ≡ option_or a b → (None ≡ a) × (None ≡ b)
or_parts None b h = (refl, h)
or_parts (Some x) b h = absurd (cc h)

end_means : (line : ℕ) (s t : DeviceState) → None ≡ wrong_end line s t → (s.clock ≡ t.clock) × (s.number ≡ t.number) × (s.next ≡ t.next)
end_means line s t h = go (eqb s.clock t.clock) refl (eqb s.number t.number) refl (eqb s.next t.next) refl h
  where
    go : (a : Bool) → eqb s.clock t.clock ≡ a → (b : Bool) → eqb s.number t.number ≡ b → (c : Bool) → eqb s.next t.next ≡ c → None ≡ cond (a && (b && c)) None (Some line) → (s.clock ≡ t.clock) × (s.number ≡ t.number) × (s.next ≡ t.next)
    go true e true f true g k = (eqb-true s.clock t.clock e, eqb-true s.number t.number f, eqb-true s.next t.next g)
    go true e true f false g k = absurd (cc k)
    go true e false f c g k = absurd (cc k)
    go false e b f c g k = absurd (cc k)

same_states : (s t : DeviceState) → s.objects ≡ t.objects → s.tasks ≡ t.tasks → s.clock ≡ t.clock → s.number ≡ t.number → s.next ≡ t.next → s ≡ t
same_states s t a b c d e = parts s.objects t.objects s.tasks t.tasks s.clock t.clock s.number t.number s.next t.next a b c d e
  where
    parts : (o p : Objects) (ts us : List TaskRec) (c d m n x y : ℕ) → o ≡ p → ts ≡ us → c ≡ d → m ≡ n → x ≡ y →
        (let s : DeviceState = record { objects = o; tasks = ts; clock = c; number = m; next = x } in let t : DeviceState = record { objects = p; tasks = us; clock = d; number = n; next = y } in s ≡ t)
    parts o p ts us c d m n x y a b e f g = rw (a, b, e, f, g) refl

state_means : (r : Report) (f : DeviceState) → None ≡ wrong_state r f → r.state ≡ f
state_means r f h =
    let p = or_parts (wrong_end r.end_line r.state f) _ h in
    let q = or_parts (unlike_from (pointwise nat_eq) (r.end_line + 1) r.state.objects f.objects) _ p.1 in
    let e = end_means r.end_line r.state f p.0 in
    same_states r.state f (same_lists (pointwise nat_eq) (λ x y. (same_bytes x y).0) (r.end_line + 1) r.state.objects f.objects (sym q.0)) (same_lists same_task task_means (r.end_line + 1 + length r.state.objects) r.state.tasks f.tasks (sym q.1)) e.0 e.1 e.2

no_wrong_end : (line : ℕ) (s : DeviceState) → wrong_end line s s ≡ None
no_wrong_end line s = rw (eq-eqb s.clock s.clock refl, eq-eqb s.number s.number refl, eq-eqb s.next s.next refl) refl

no_wrong_state : (r : Report) → wrong_state r r.state ≡ None
no_wrong_state r = rw (no_wrong_end r.end_line r.state, no_unlike (pointwise nat_eq) (λ x. (same_bytes x x).1 refl) (r.end_line + 1) r.state.objects, no_unlike same_task task_same (r.end_line + 1 + length r.state.objects) r.state.tasks) refl

-- no difference
pub no_difference_serial : WrongLaw → PlaceLaw → SerialLaw → (set : TaskSet) (r : Report) → IsFirstDifference set r None → IsSerialReport set r
no_difference_serial wrong places law set r h = number (wrong_number (formatted set).number r.listing) refl h
  where
    by : (numbers : NumbersFollow (formatted set).number (entries_of r)) (x : Replayed) → replay (runs_of set) (formatted set) (entries_of r) ≡ x → DiffersBy set r x None → IsSerialReport set r
    by numbers (Wrong place) e h =
        let inside = wrong_inside wrong places (runs_of set) (formatted set) (entries_of r) place e in
        let there = line_there r.listing place (record { line = 0; entry = record { number = 0; task = 0; point = 0; first = 0; outcome = Exit 0 } }) (omega (arith, inside, length-map r.listing (λ (l : Listed). l.entry))) in
        absurd (let k = h ∙ there in cc k)
    by numbers (Good reruns) e h =
        let p = or_parts (wrong_first reruns 0 (formatted set).next r.listing) (wrong_state r h.0) h.2 in
        law (runs_of set) (formatted set) (entries_of r) r.state (record {
          reruns = reruns;
          good = e;
          numbers = numbers;
          children = children_from reruns 0 (formatted set).next r.listing (sym p.0);
          leaves = subst (Leaves (formatted set) (entries_of r) reruns) (sym (state_means r h.0 p.1)) h.1;
        })

    number : (o : Option ℕ) → wrong_number (formatted set).number r.listing ≡ o → DiffersUnless set r o None → IsSerialReport set r
    number None e h = by (numbers_from (formatted set).number r.listing e) (replay (runs_of set) (formatted set) (entries_of r)) refl h
    number (Some line) e h = absurd (cc h)

pub serial_no_difference : ReplayedLaw → OneStateLaw → (set : TaskSet) (r : Report) (line : Option ℕ) → IsSerialReport set r → IsFirstDifference set r line → line ≡ None
serial_no_difference law one set r line s h =
    let a = law (runs_of set) (formatted set) (entries_of r) r.state s in
    let g = subst (λ o. DiffersUnless set r o line) (no_wrong_number (formatted set).number r.listing a.numbers) h in
    let k = subst (λ x. DiffersBy set r x line) a.good g in
    let same = one (formatted set) (entries_of r) a.reruns k.0 r.state k.1 a.leaves in
    k.2 ∙ ap (λ o. option_or o (wrong_state r k.0)) (no_wrong_first a.reruns 0 (formatted set).next r.listing a.children) ∙ ap (wrong_state r) same ∙ no_wrong_state r
