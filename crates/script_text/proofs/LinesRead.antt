-- What each line of a set that was written makes of the lines before it: the next part of the set.
use Rattle.std.proofs.Common.{◌≡◌, ℕ, ◌*◌, ◌<◌, true, false, List, [], ◌∷◌, ◌++◌, length, map, Option, Some, Ok, refl, ◌∙◌, ltb, eqb, arith, codes}
use Rattle.std.specs.List.{AllByRecursion}
use Rattle.std.specs.Fmt.{decimal}
use Rattle.std.proofs.lemmas.Bool.{ne_eqb, le-ltb, eq-eqb}
use Rattle.std.proofs.lemmas.List.{length-map}
use Rattle.kernel_model.specs.Effects.{Spawn}
use Rattle.set_model.specs.Sets.{ObjPart, ProgPart, TaskSet, program_at}
use Rattle.set_model.specs.Limits.{IsObject, IsProgram, IsTask, max_objects}
use Rattle.set_model.specs.Names.{IsName, AreDistinct}
use Rattle.script.specs.declared.keyword.Stage.{Stage}
use Rattle.script.specs.declared.keyword.Stage.TheVariants as stages
use Rattle.script.specs.Keywords.{may_follow}
use Rattle.script.specs.Words.{known_name}
use Rattle.script.specs.SetLines.{first_values, object_after, task_after}
use Rattle.script.specs.Blocks.{header_of, program_after}
use Rattle.script.specs.Parts.{Parts, no_events}
use Rattle.script.specs.Lines.{words_after, line_after}
use Rattle.script_text.proofs.WrittenLines.{IsWritten, spaced, spaced_line, spaced_words, line_is_plain}
use Rattle.script_text.proofs.WrittenWords.{number_back, value_back, values_back}
use Rattle.script_text.proofs.NamesRead.{is_new}

-- ---- the set so far

abbrev pub so_far : TaskSet → List ObjPart → List ProgPart → List Spawn → TaskSet
so_far set objects programs tasks = record {
  format = set.format;
  cores = set.cores;
  memory = set.memory;
  records = set.records;
  objects = objects;
  programs = programs;
  tasks = tasks;
}

abbrev pub after : TaskSet → Option Stage → List ObjPart → List ProgPart → List Spawn → Parts
after set last objects programs tasks = record { last = last; cores_line = 2; set = so_far set objects programs tasks; timeline = no_events }

-- ---- lines

-- a line of these words gives what its words give
pub line_is : (n : ℕ) (p q : Parts) (first : List ℕ) (others : List (List ℕ)) → IsWritten first → AllByRecursion IsWritten others
    → words_after n p (first ∷ others) ≡ Ok q → line_after n p (spaced first others) ≡ Ok q
line_is n p q first others one all read =
    rw (line_is_plain (spaced first others) (spaced_line first others one all), spaced_words first others one all) read

-- the words of an object's line
abbrev pub object_words : ObjPart → List (List ℕ)
object_words o = o.name ∷ decimal o.size ∷ decimal o.slots ∷ map decimal o.first

values_are : (o : ObjPart) → IsObject o → first_values o.size (map decimal o.first) ≡ Ok o.first
unfolding first_values
values_are o h =
    let size : length (map decimal o.first) ≡ o.size = length-map o.first decimal ∙ h.first in
    let low = h.size.0 in
    let some : eqb o.size 0 ≡ false = ne_eqb _ _ (omega arith) in
    let right : eqb o.size o.size ≡ true = eq-eqb _ _ refl in
    rw (size, some, right) (values_back o.first h.words)

pub object_is : (set : TaskSet) (done : List ObjPart) (o : ObjPart) (others : List (List ℕ)) → IsObject o → IsName o.name → AreDistinct (map (λ o. o.name) done ++ o.name ∷ others) → length done < max_objects set.format
    → object_after (so_far set done [] []) (object_words o) ≡ Ok (so_far set (done ++ o ∷ []) [] [])
unfolding object_after
object_is set done o others h name once few =
    let size = h.size in
    let slots = h.slots in
    let room : eqb (length done) (max_objects set.format) ≡ false = ne_eqb _ _ (omega arith) in
    rw (
      is_new (λ o. o.name) done o.name others name once,
      number_back 1 64 o.size size.0 size.1 (omega arith),
      number_back 2 8 o.slots slots.0 slots.1 (omega arith),
      values_are o h,
      room,
    ) refl

abbrev pub task_words : TaskSet → Spawn → List (List ℕ)
task_words set t = (program_at set t.program).name ∷ decimal t.arg ∷ []

pub task_is : (set : TaskSet) (done : List Spawn) (t : Spawn) → IsTask (length set.programs) t → IsName (program_at set t.program).name
    → known_name (λ p. p.name) set.programs (program_at set t.program).name ≡ Ok t.program → length done < set.records
    → task_after (so_far set set.objects set.programs done) (task_words set t) ≡ Ok (so_far set set.objects set.programs (done ++ t ∷ []))
unfolding task_after
task_is set done t h name known few =
    let room : eqb (length done) set.records ≡ false = ne_eqb _ _ (omega arith) in
    rw (known, value_back t.arg h.arg, room) refl

-- ---- programs

abbrev pub program_words : ProgPart → List (List ℕ)
program_words p = p.name ∷ decimal p.fuel ∷ []

pub header_is : (set : TaskSet) (last : Stage) (done : List ProgPart) (p : ProgPart) (others : List (List ℕ)) → may_follow (Some last) stages.Program ≡ true → IsProgram set.memory p → IsName p.name
    → AreDistinct (map (λ p. p.name) done ++ p.name ∷ others) → length done < 16
    → header_of (after set (Some last) set.objects done []) (program_words p) ≡ Ok (record { name = p.name; fuel = p.fuel })
unfolding header_of
header_is set last done p others may h name once few =
    let fuel = h.fuel in
    let room : eqb (length done) 16 ≡ false = ne_eqb _ _ (omega arith) in
    rw (may, is_new (λ program. program.name) done p.name others name once, number_back 1 1000000 p.fuel fuel.0 fuel.1 (omega arith), room) refl

pub program_is : (set : TaskSet) (last : Option Stage) (done : List ProgPart) (p : ProgPart) → IsProgram set.memory p
    → program_after (after set last set.objects done []) (record { name = p.name; fuel = p.fuel }) p.code (Some (codes "end")) ≡ Ok (after set (Some stages.Program) set.objects (done ++ p ∷ []) [])
unfolding program_after
program_is set last done p h =
    let fits : ltb set.memory (4 * length p.code) ≡ false = le-ltb _ _ h.fits in
    rw fits refl
