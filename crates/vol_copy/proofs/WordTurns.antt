-- What the words of a copy are in the table machine, from the choice of a version to the last word.
use Rattle.std.proofs.Common.{◌≡◌, ℕ, ◌+◌, ◌<◌, ◌≤◌, true, false, cond, ltb, eqb, List, [], ◌∷◌, ◌++◌, length, set, take, Option, refl, sym, ap, subst, ◌∙◌, arith, eq-eqb, ne_eqb, get_or-set_same}
use Rattle.std.proofs.lemmas.Bool.{lt-ltb, le-ltb}
use Rattle.std.proofs.lemmas.List.{length-set, length-take-le, take_more_set, take_all}
use Rattle.std.specs.List.{AllByRecursion}
use Rattle.object_sets.specs.ObjectSets.{is_among, with_object}
use Rattle.rv_core.specs.State.{MachineState}
use Rattle.nv_base.specs.declared.ids.ObjId.{ObjId}
use Rattle.kernel_model.specs.Effects.{Objects, also_written, object_words}
use Rattle.set_model.specs.Sets.{TaskSet, object_at}
use Rattle.device_model.specs.Words.{Words}
use Rattle.device_model.specs.Layouts.{Layout, slot_place}
use Rattle.task_model.specs.TaskSteps.{given_words, past, rewritten_words, task_steps}
use Rattle.table_machine.specs.Tables.{Copy, Copies, Runs, Try}
use Rattle.table_machine.specs.Seats.{SeatTurn, copy_word, still}
use Rattle.table_machine.specs.Seats as seats
use Rattle.vol_copy.specs.Stages.{IsFetching}
use Rattle.vol_copy.specs.Wants.{memory_wanted, rewritten_wanted}
use Rattle.vol_copy.specs.Received.{received, received_with}
use Rattle.vol_copy.specs.Tries.{AreCopies, IsCopyingTry, IsFor, IsForAt, IsTry}
use Rattle.vol_copy.specs.Turns.{CopiesTo, CopiesWord, OpensRead, setting_of}
use Rattle.vol_copy.specs.declared.attempt.Attempt.{Attempt}
use Rattle.vol_copy.specs.declared.attempt.Stage.{Stage}
use Rattle.vol_copy.specs.declared.attempt.Stage.TheVariants as stage
use Rattle.vol_copy.specs.declared.want.Want.{Want}
use Rattle.vol_copy.proofs.CopyTables.{all_apart, words_stay}
use Rattle.vol_copy.proofs.Obtaining.{told, wanted_turn}
use Rattle.vol_copy.proofs.WriteTables.{writes-with}

-- one more copy
copies_with : (o : ℕ) (reads : List ℕ) (kept : Objects) (copies : List Copy) → is_among o reads ≡ false → AreCopies reads kept copies → AreCopies (with_object o reads) kept (record { object = o; words = object_words kept o } ∷ copies)
copies_with o reads kept copies e h = record {
  objects = ap (with_object o) h.objects;
  once = (all_apart o copies (ap (is_among o) h.objects ∙ e), h.once);
  words = (refl, h.words);
}

opens_so : (a : Attempt) (o : ObjId) (w : Want) (reads : List ℕ) → a.stage ≡ stage.Fetching o w → is_among o.0 a.reads ≡ false → reads ≡ with_object o.0 a.reads → OpensRead a o (record a { reads = reads; stage = stage.Copying o w 0 })
unfolding OpensRead
opens_so a o w reads e unread is = (
  λ v f. let same : stage.Fetching o w ≡ stage.Fetching o v = sym e ∙ f in let want : w ≡ v = cc same in ap (λ x. stage.Copying o x 0) want,
  λ t i h. record {
    done = record { task = h.done.task; writes = h.done.writes; spawns = h.done.spawns; state = h.done.state };
    older = t.copies;
    newest = refl;
    copies = subst (λ r. AreCopies r a.copies (record { object = o.0; words = object_words a.copies o.0 } ∷ t.copies)) (sym is) (copies_with o.0 a.reads a.copies t.copies unread h.copies);
  },
)

-- the object's number stands in the stage
pub opens : (a : Attempt) (o p : ObjId) (w : Want) (reads : List ℕ) → (s : TaskSet) × IsFor s a → IsFetching o a.stage → a.stage ≡ stage.Fetching p w → reads ≡ with_object p.0 a.reads → OpensRead a o (record a { reads = reads; stage = stage.Copying p w 0 })
opens a o p w reads kept f e is =
    let same : stage.Fetching p w ≡ stage.Fetching o f.0 = sym e ∙ f.1 in
    let object : p ≡ o = cc same in
    subst (λ x. OpensRead a x (record a { reads = reads; stage = stage.Copying p w 0 })) object
    (opens_so a p w reads e (subst (IsForAt kept.0 a) e kept.1.stage).1 is)

-- what a word makes of a copy with so many words, where they are these
abbrev one_more : TaskSet → Try MachineState → (slot o : ℕ) → List Copy → (count : ℕ) → (copied : List ℕ) → SeatTurn MachineState
one_more s t slot o older count copied =
    let b : Try MachineState = record t { copies = record { object = o; words = copied } ∷ older } in
    cond (ltb (count + 1) (object_at s o).size) (still (Copies b slot)) (still (Runs (seats.given_words (task_steps s) b t.state o copied)))

-- the front of a copy with its next word
abbrev pub longer : List ℕ → (copied word : ℕ) → List ℕ
longer xs copied word = take (copied + 1) (set xs copied word)

word_comes : (s : TaskSet) (layout : Layout) (words : Words) (a : Attempt) (o copied word : ℕ) (t : Try MachineState) (slot : ℕ) (h : IsCopyingTry a o copied t) → copied < length (object_words a.copies o) → word ≡ words (slot_place layout s o slot + copied)
    → copy_word (setting_of s layout) words t slot t.copies ≡ one_more s t slot o h.older copied (longer (object_words a.copies o) copied word)
word_comes s layout words a o copied word t slot h l e =
    let xs : List ℕ = object_words a.copies o in
    let count : length (take copied xs) ≡ copied = length-take-le copied xs (omega (arith, l)) in
    ap (copy_word (setting_of s layout) words t slot) h.newest
    ∙ ap (λ n. one_more s t slot o h.older n (take copied xs ++ words (slot_place layout s o slot + n) ∷ [])) count
    ∙ ap (λ x. one_more s t slot o h.older copied (take copied xs ++ x ∷ [])) (sym e)
    ∙ ap (one_more s t slot o h.older copied) (sym (take_more_set xs copied word l))

-- the copies, with a word put in
copies_put : (a : Attempt) (o copied : ℕ) (t : Try MachineState) (h : IsCopyingTry a o copied t) (new : List ℕ) (kept : Objects) → kept ≡ set a.copies o new → AreCopies a.reads kept (record { object = o; words = object_words kept o } ∷ h.older)
copies_put a o copied t h new kept e = record {
  objects = h.copies.objects;
  once = h.copies.once;
  words = (refl, subst (λ k. AllByRecursion (λ c. c.words ≡ object_words k c.object) h.older) (sym e) (words_stay o new a.copies h.older h.copies.once.0 h.copies.words.1));
}

-- the object of a stage
stage_of : (a : Attempt) (o p : ObjId) (w v : Want) (i j : ℕ) → a.stage ≡ stage.Copying o w i → a.stage ≡ stage.Copying p v j → stage.Copying o w i ≡ stage.Copying p v j
stage_of a o p w v i j e f = sym e ∙ f

more_so : (a : Attempt) (o : ObjId) (w : Want) (copied word : ℕ) (kept : Objects) → a.stage ≡ stage.Copying o w copied → kept ≡ set a.copies o.0 (set (object_words a.copies o.0) copied word)
    → (s : TaskSet) → IsFor s a → copied + 1 < (object_at s o.0).size
    → (false ≡ eqb (copied + 1) (object_at s o.0).size)
    × ((layout : Layout) (words : Words) (t : Try MachineState) (slot : ℕ) → IsCopyingTry a o.0 copied t → word ≡ words (slot_place layout s o.0 slot + copied)
    → CopiesTo (record a { copies = kept; stage = stage.Copying o w (copied + 1) }) o w copied false t slot (copy_word (setting_of s layout) words t slot t.copies))
more_so a o w copied word kept e is s f less =
    let there = subst (IsForAt s a) e f.stage in
    let inside : o.0 < length a.copies = omega (arith, there.0.inside, f.copies.number) in
    let size : length (object_words a.copies o.0) ≡ (object_at s o.0).size = f.copies.sizes o.0 inside in
    let new : List ℕ = set (object_words a.copies o.0) copied word in
    let now : object_words kept o.0 ≡ new = ap (λ k. object_words k o.0) is ∙ get_or-set_same a.copies o.0 new [] inside in (
      sym (ne_eqb (copied + 1) (object_at s o.0).size (λ g. omega (arith, less, g))),
      λ layout words t slot h at.
          let u : Try MachineState = record t { copies = record { object = o.0; words = take (copied + 1) new } ∷ h.older } in (
            refl,
            (
              u,
              record {
                done = record { task = h.done.task; writes = h.done.writes; spawns = h.done.spawns; state = h.done.state };
                older = h.older;
                newest = ap (λ x. let c : Copy = record { object = o.0; words = take (copied + 1) x } in c ∷ h.older) (sym now);
                copies = copies_put a o.0 copied t h new kept is;
              },
              refl,
              word_comes s layout words a o.0 copied word t slot h (omega (arith, size, less)) at
                  ∙ ap (λ b. cond b (still (Copies u slot)) (still (Runs (seats.given_words (task_steps s) u t.state o.0 (take (copied + 1) new))))) (lt-ltb (copied + 1) (object_at s o.0).size less),
            ),
          ),
    )

-- a word that is not the last one
pub more : (a : Attempt) (o : ObjId) (w : Want) (copied word size : ℕ) (kept : Objects) → a.stage ≡ stage.Copying o w copied → kept ≡ set a.copies o.0 (set (object_words a.copies o.0) copied word)
    → size ≡ length (object_words kept o.0) → copied + 1 < size → CopiesWord a word (record a { copies = kept; stage = stage.Copying o w (copied + 1) }) false
unfolding CopiesWord
more a o w copied word size kept e is long less = λ s f p v k g.
    let there = subst (IsForAt s a) e f.stage in
    let inside : o.0 < length a.copies = omega (arith, there.0.inside, f.copies.number) in
    let new : List ℕ = set (object_words a.copies o.0) copied word in
    let now : length (object_words kept o.0) ≡ (object_at s o.0).size = ap (λ c. length (object_words c o.0)) is ∙ ap length (get_or-set_same a.copies o.0 new [] inside) ∙ length-set (object_words a.copies o.0) copied word ∙ f.copies.sizes o.0 inside in
    at_stage s p v k (stage_of a o p w v copied k e g) (more_so a o w copied word kept e is s f (omega (arith, less, long, now)))
  where
    Is : TaskSet → Stage → Type 0
    Is s (stage.Copying p v k) =
        (false ≡ eqb (k + 1) (object_at s p.0).size)
        × ((layout : Layout) (words : Words) (t : Try MachineState) (slot : ℕ) → IsCopyingTry a p.0 k t → word ≡ words (slot_place layout s p.0 slot + k)
        → CopiesTo (record a { copies = kept; stage = stage.Copying o w (copied + 1) }) p v k false t slot (copy_word (setting_of s layout) words t slot t.copies))
    Is s _ = Unit {0}

    at_stage : (s : TaskSet) (p : ObjId) (v : Want) (k : ℕ) → stage.Copying o w copied ≡ stage.Copying p v k → Is s (stage.Copying o w copied) → Is s (stage.Copying p v k)
    at_stage s p v k e h = subst (Is s) e h

-- with the last word the service has all
last_so : (a n : Attempt) (o : ObjId) (w : Want) (copied word : ℕ) (kept : Objects) → a.stage ≡ stage.Copying o w copied → kept ≡ set a.copies o.0 (set (object_words a.copies o.0) copied word)
    → (let b : Attempt = record a { copies = kept } in n ≡ received b o.0 w) → (s : TaskSet) → IsFor s a → (object_at s o.0).size ≤ copied + 1
    → (true ≡ eqb (copied + 1) (object_at s o.0).size)
    × ((layout : Layout) (words : Words) (t : Try MachineState) (slot : ℕ) → IsCopyingTry a o.0 copied t → word ≡ words (slot_place layout s o.0 slot + copied)
    → CopiesTo (record n { stage = stage.Running }) o w copied true t slot (copy_word (setting_of s layout) words t slot t.copies))
last_so a n o w copied word kept e is same s f enough =
    let there = subst (IsForAt s a) e f.stage in
    let inside : o.0 < length a.copies = omega (arith, there.0.inside, f.copies.number) in
    let own : o.0 < length a.words = omega (arith, there.0.inside, f.words.number) in
    let xs : List ℕ = object_words a.copies o.0 in
    let size : length xs ≡ (object_at s o.0).size = f.copies.sizes o.0 inside in
    let full : List ℕ = set xs copied word in
    let long : length full ≡ (object_at s o.0).size = length-set xs copied word ∙ size in
    let now : object_words kept o.0 ≡ full = ap (λ k. object_words k o.0) is ∙ get_or-set_same a.copies o.0 full [] inside in
    let new : Option (List ℕ) = rewritten_wanted w a.machine.memory full in
    let m : MachineState = past (record a.machine { memory = memory_wanted w a.machine.memory full }) in
    let b : Attempt = record a { copies = kept } in
    let behind : n ≡ received_with b o.0 w full = same ∙ ap (λ c. received_with b o.0 w (cond c (object_words a.words o.0) (object_words kept o.0))) there.0.unwritten ∙ ap (received_with b o.0 w) now in (
      sym (eq-eqb (copied + 1) (object_at s o.0).size (let less = there.1 in omega (arith, less, enough))),
      λ layout words t slot h at.
          let c : Try MachineState = record t { copies = record { object = o.0; words = full } ∷ h.older } in
          let u : Try MachineState = record c { writes = also_written o.0 new t.writes; state = m } in
          let tried : IsTry (record (received_with b o.0 w full) { stage = stage.Running }) u =
          record {
            done = record { task = h.done.task; writes = writes-with o.0 new a.words a.written t.writes own f.increasing h.done.writes; spawns = h.done.spawns; state = refl };
            copies = subst (λ x. AreCopies a.reads kept (record { object = o.0; words = x } ∷ h.older)) now (copies_put a o.0 copied t h full kept is);
          } in (
            refl,
            (
              u,
              subst (λ (x : Attempt). IsTry (record x { stage = stage.Running }) u) (sym behind) tried,
              refl,
              word_comes s layout words a o.0 copied word t slot h (let less = there.1 in omega (arith, size, less)) at
                  ∙ ap (one_more s t slot o.0 h.older copied) (take_all (copied + 1) full (omega (arith, long, enough)))
                  ∙ ap (λ d. cond d (still (Copies c slot)) (still (Runs (seats.given_words (task_steps s) c t.state o.0 full)))) (le-ltb (copied + 1) (object_at s o.0).size enough)
                  ∙ ap (λ k. told c o.0 (rewritten_words k full) (given_words k full)) h.done.state
                  ∙ wanted_turn c a.machine o.0 (object_at s o.0).size w full there.0.awaits long,
            ),
          ),
    )

pub last : (a n : Attempt) (o : ObjId) (w : Want) (copied word size : ℕ) (kept : Objects) → a.stage ≡ stage.Copying o w copied → kept ≡ set a.copies o.0 (set (object_words a.copies o.0) copied word)
    → (let b : Attempt = record a { copies = kept } in n ≡ received b o.0 w) → size ≡ length (object_words kept o.0) → size ≤ copied + 1 → CopiesWord a word (record n { stage = stage.Running }) true
unfolding CopiesWord
last a n o w copied word size kept e is same long enough = λ s f p v k g.
    let there = subst (IsForAt s a) e f.stage in
    let inside : o.0 < length a.copies = omega (arith, there.0.inside, f.copies.number) in
    let new : List ℕ = set (object_words a.copies o.0) copied word in
    let now : length (object_words kept o.0) ≡ (object_at s o.0).size = ap (λ c. length (object_words c o.0)) is ∙ ap length (get_or-set_same a.copies o.0 new [] inside) ∙ length-set (object_words a.copies o.0) copied word ∙ f.copies.sizes o.0 inside in
    at_stage s p v k (stage_of a o p w v copied k e g) (last_so a n o w copied word kept e is same s f (omega (arith, enough, long, now)))
  where
    Is : TaskSet → Stage → Type 0
    Is s (stage.Copying p v k) =
        (true ≡ eqb (k + 1) (object_at s p.0).size)
        × ((layout : Layout) (words : Words) (t : Try MachineState) (slot : ℕ) → IsCopyingTry a p.0 k t → word ≡ words (slot_place layout s p.0 slot + k)
        → CopiesTo (record n { stage = stage.Running }) p v k true t slot (copy_word (setting_of s layout) words t slot t.copies))
    Is s _ = Unit {0}

    at_stage : (s : TaskSet) (p : ObjId) (v : Want) (k : ℕ) → stage.Copying o w copied ≡ stage.Copying p v k → Is s (stage.Copying o w copied) → Is s (stage.Copying p v k)
    at_stage s p v k e h = subst (Is s) e h
