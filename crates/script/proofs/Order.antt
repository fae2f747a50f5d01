-- The lines of a script come in the order of the table.
use Rattle.std.proofs.Common.{◌≡◌, ℕ, suc, ◌+◌, Bool, true, false, cond, ◌&&◌, List, [], ◌∷◌, ◌++◌, replicate, length, Option, Some, None, Ok, Err, refl, sym, ap, ◌∙◌, option_map}
use Rattle.nv_base.proofs.ForCallers.{at_ok, bind_ok}
use Rattle.std.specs.List.{cons_option}
use Rattle.plain_text.specs.Words.{is_plain, line_words}
use Rattle.script.specs.declared.refusals.ScriptCause.TheVariants as causes
use Rattle.script.specs.declared.keyword.Keyword.{Keyword}
use Rattle.script.specs.declared.keyword.BlockKind.{BlockKind}
use Rattle.script.specs.declared.keyword.Stage.{Stage}
use Rattle.script.specs.declared.keyword.Stage.TheVariants.{Nvk, Cores, Memory, Records, Object, Program, Task, Schedule, Run}
use Rattle.nv_base.specs.Results.{◌>>=◌}
use Rattle.script.specs.Keywords.{keyword_of, stage_of, may_follow}
use Rattle.script.specs.Parts.{Parts}
use Rattle.script.specs.Lines.{found, line_after, words_after}
use Rattle.script.specs.Sections.{Section, Single, Block, line_count}
use Rattle.nv_base.specs.Refusals.{at}
use Rattle.script.specs.Blocks.{header_of, code_of, program_after, block_after}
use Rattle.script.specs.Reading.{section_after, sections_after}
use Rattle.script.specs.Laws.{IsLaidOut, stage_of_words, stage_in, stages_of}
use Rattle.script.proofs.KeptSections.{header_ok, program_ok}
use Rattle.script.proofs.Inversions.{words_read}

-- each may follow the one before, and the last is `run`
abbrev is_last : Option Stage → Bool
is_last (Some Run) = true
is_last _ = false

abbrev pub in_order : Option Stage → List Stage → Bool
in_order last [] = is_last last
in_order last (stage ∷ stages) = may_follow last stage && in_order (Some stage) stages

record AfterEvents (stages : List Stage) : Type 0 where
  events : ℕ
  lines : stages ≡ replicate events Schedule ++ Run ∷ []

nothing_after : (stages : List Stage) → in_order (Some Run) stages ≡ true → stages ≡ []
nothing_after [] e = refl
nothing_after (k ∷ stages) e = absurd cc

after_events : (stages : List Stage) → in_order (Some Schedule) stages ≡ true → AfterEvents stages
after_events [] e = absurd cc
after_events (Schedule ∷ stages) e = let r = after_events stages e in record { events = suc r.events; lines = ap (λ (ks : List Stage). Schedule ∷ ks) r.lines }
after_events (Run ∷ stages) e = record { events = 0; lines = ap (λ (ks : List Stage). Run ∷ ks) (nothing_after stages e) }
after_events (Nvk ∷ stages) e = absurd cc
after_events (Cores ∷ stages) e = absurd cc
after_events (Memory ∷ stages) e = absurd cc
after_events (Records ∷ stages) e = absurd cc
after_events (Object ∷ stages) e = absurd cc
after_events (Program ∷ stages) e = absurd cc
after_events (Task ∷ stages) e = absurd cc

record AfterTask (stages : List Stage) : Type 0 where
  tasks : ℕ
  events : ℕ
  lines : stages ≡ replicate tasks Task ++ (replicate events Schedule ++ Run ∷ [])

after_task : (stages : List Stage) → in_order (Some Task) stages ≡ true → AfterTask stages
after_task [] e = absurd cc
after_task (Task ∷ stages) e = let r = after_task stages e in record { tasks = suc r.tasks; events = r.events; lines = ap (λ (ks : List Stage). Task ∷ ks) r.lines }
after_task (Schedule ∷ stages) e = let r = after_events stages e in record { tasks = 0; events = suc r.events; lines = ap (λ (ks : List Stage). Schedule ∷ ks) r.lines }
after_task (Run ∷ stages) e = record { tasks = 0; events = 0; lines = ap (λ (ks : List Stage). Run ∷ ks) (nothing_after stages e) }
after_task (Nvk ∷ stages) e = absurd cc
after_task (Cores ∷ stages) e = absurd cc
after_task (Memory ∷ stages) e = absurd cc
after_task (Records ∷ stages) e = absurd cc
after_task (Object ∷ stages) e = absurd cc
after_task (Program ∷ stages) e = absurd cc

record AfterProgram (stages : List Stage) : Type 0 where
  programs : ℕ
  tasks : ℕ
  events : ℕ
  lines : stages ≡ replicate programs Program ++ (replicate tasks Task ++ (replicate events Schedule ++ Run ∷ []))

after_program : (stages : List Stage) → in_order (Some Program) stages ≡ true → AfterProgram stages
after_program [] e = absurd cc
after_program (Program ∷ stages) e = let r = after_program stages e in record { programs = suc r.programs; tasks = r.tasks; events = r.events; lines = ap (λ (ks : List Stage). Program ∷ ks) r.lines }
after_program (Task ∷ stages) e = let r = after_task stages e in record { programs = 0; tasks = suc r.tasks; events = r.events; lines = ap (λ (ks : List Stage). Task ∷ ks) r.lines }
after_program (Schedule ∷ stages) e = let r = after_events stages e in record { programs = 0; tasks = 0; events = suc r.events; lines = ap (λ (ks : List Stage). Schedule ∷ ks) r.lines }
after_program (Run ∷ stages) e = record { programs = 0; tasks = 0; events = 0; lines = ap (λ (ks : List Stage). Run ∷ ks) (nothing_after stages e) }
after_program (Nvk ∷ stages) e = absurd cc
after_program (Cores ∷ stages) e = absurd cc
after_program (Memory ∷ stages) e = absurd cc
after_program (Records ∷ stages) e = absurd cc
after_program (Object ∷ stages) e = absurd cc

record AfterObject (stages : List Stage) : Type 0 where
  objects : ℕ
  programs : ℕ
  tasks : ℕ
  events : ℕ
  lines : stages ≡ replicate objects Object ++ (replicate (suc programs) Program ++ (replicate tasks Task ++ (replicate events Schedule ++ Run ∷ [])))

after_object : (stages : List Stage) → in_order (Some Object) stages ≡ true → AfterObject stages
after_object [] e = absurd cc
after_object (Object ∷ stages) e = let r = after_object stages e in record { objects = suc r.objects; programs = r.programs; tasks = r.tasks; events = r.events; lines = ap (λ (ks : List Stage). Object ∷ ks) r.lines }
after_object (Program ∷ stages) e = let r = after_program stages e in record { objects = 0; programs = r.programs; tasks = r.tasks; events = r.events; lines = ap (λ (ks : List Stage). Program ∷ ks) r.lines }
after_object (Nvk ∷ stages) e = absurd cc
after_object (Cores ∷ stages) e = absurd cc
after_object (Memory ∷ stages) e = absurd cc
after_object (Records ∷ stages) e = absurd cc
after_object (Task ∷ stages) e = absurd cc
after_object (Schedule ∷ stages) e = absurd cc
after_object (Run ∷ stages) e = absurd cc

-- the one stage that may follow, and the rest
only : (last : Option Stage) (next : Stage) (stages : List Stage) → ((k : Stage) (ks : List Stage) → in_order last (k ∷ ks) ≡ true → (k ≡ next) × (in_order (Some next) ks ≡ true)) → (in_order last [] ≡ true → ⊥) → in_order last stages ≡ true → (rest : List Stage) × (stages ≡ next ∷ rest) × (in_order (Some next) rest ≡ true)
only last next [] one none e = absurd (none e)
only last next (k ∷ ks) one none e = let r = one k ks e in (ks, ap (λ (j : Stage). j ∷ ks) r.0, r.1)

first_line : (k : Stage) (ks : List Stage) → in_order None (k ∷ ks) ≡ true → (k ≡ Nvk) × (in_order (Some Nvk) ks ≡ true)
first_line Nvk ks e = (refl, e)
first_line Cores ks e = absurd cc
first_line Memory ks e = absurd cc
first_line Records ks e = absurd cc
first_line Object ks e = absurd cc
first_line Program ks e = absurd cc
first_line Task ks e = absurd cc
first_line Schedule ks e = absurd cc
first_line Run ks e = absurd cc

second_line : (k : Stage) (ks : List Stage) → in_order (Some Nvk) (k ∷ ks) ≡ true → (k ≡ Cores) × (in_order (Some Cores) ks ≡ true)
second_line Nvk ks e = absurd cc
second_line Cores ks e = (refl, e)
second_line Memory ks e = absurd cc
second_line Records ks e = absurd cc
second_line Object ks e = absurd cc
second_line Program ks e = absurd cc
second_line Task ks e = absurd cc
second_line Schedule ks e = absurd cc
second_line Run ks e = absurd cc

third_line : (k : Stage) (ks : List Stage) → in_order (Some Cores) (k ∷ ks) ≡ true → (k ≡ Memory) × (in_order (Some Memory) ks ≡ true)
third_line Nvk ks e = absurd cc
third_line Cores ks e = absurd cc
third_line Memory ks e = (refl, e)
third_line Records ks e = absurd cc
third_line Object ks e = absurd cc
third_line Program ks e = absurd cc
third_line Task ks e = absurd cc
third_line Schedule ks e = absurd cc
third_line Run ks e = absurd cc

fourth_line : (k : Stage) (ks : List Stage) → in_order (Some Memory) (k ∷ ks) ≡ true → (k ≡ Records) × (in_order (Some Records) ks ≡ true)
fourth_line Nvk ks e = absurd cc
fourth_line Cores ks e = absurd cc
fourth_line Memory ks e = absurd cc
fourth_line Records ks e = (refl, e)
fourth_line Object ks e = absurd cc
fourth_line Program ks e = absurd cc
fourth_line Task ks e = absurd cc
fourth_line Schedule ks e = absurd cc
fourth_line Run ks e = absurd cc

fifth_line : (k : Stage) (ks : List Stage) → in_order (Some Records) (k ∷ ks) ≡ true → (k ≡ Object) × (in_order (Some Object) ks ≡ true)
fifth_line Nvk ks e = absurd cc
fifth_line Cores ks e = absurd cc
fifth_line Memory ks e = absurd cc
fifth_line Records ks e = absurd cc
fifth_line Object ks e = (refl, e)
fifth_line Program ks e = absurd cc
fifth_line Task ks e = absurd cc
fifth_line Schedule ks e = absurd cc
fifth_line Run ks e = absurd cc

-- lines in order are laid out as the table says
pub laid_out : (stages : List Stage) → in_order None stages ≡ true → IsLaidOut stages
laid_out stages e =
    let a = only None Nvk stages first_line (λ h. cc) e in
    let b = only (Some Nvk) Cores a.0 second_line (λ h. cc) a.2 in
    let c = only (Some Cores) Memory b.0 third_line (λ h. cc) b.2 in
    let d = only (Some Memory) Records c.0 fourth_line (λ h. cc) c.2 in
    let f = only (Some Records) Object d.0 fifth_line (λ h. cc) d.2 in
    let r = after_object f.0 f.2 in
    record { objects = r.objects; programs = r.programs; tasks = r.tasks; events = r.events; lines = cc }

-- ---- the stages of the sections that are taken

abbrev Next : Option Stage → Option Stage → Option Stage → Type 0
Next old new None = new ≡ old
Next old new (Some stage) = (may_follow old stage ≡ true) × (new ≡ Some stage)

words_next : (n : ℕ) (p q : Parts) (words : List (List ℕ)) → words_after n p words ≡ Ok q → Next p.last q.last (stage_of_words words)
unfolding words_after
words_next n p q [] h = let same : p ≡ q = cc in ap (λ (p : Parts). p.last) (sym same)
words_next n p q (first ∷ words) h =
    let r = words_read n p q first words h in
    go (keyword_of first) r.0 r.1 r.2 (ap (λ (q : Parts). q.last) (sym r.5))
  where
    go : (o : Option Keyword) (keyword : Keyword) → found o ≡ Ok keyword → may_follow p.last (stage_of keyword) ≡ true → q.last ≡ Some (stage_of keyword) → Next p.last q.last (option_map stage_of o)
    go None keyword e f last = absurd cc
    go (Some k) keyword e f last =
        let same : keyword ≡ k = cc in
        (rw (ap stage_of same) at f, last ∙ ap (λ (k : Keyword). Some (stage_of k)) same)

line_next : (n : ℕ) (p q : Parts) (line : List ℕ) → line_after n p line ≡ Ok q → Next p.last q.last (stage_of_words (line_words line))
line_next n p q line h = plain (is_plain line) h
  where
    plain : (b : Bool) → cond b (words_after n p (line_words line)) (Err causes.Byte) ≡ Ok q → Next p.last q.last (stage_of_words (line_words line))
    plain true h = words_next n p q (line_words line) h
    plain false h = absurd cc

block_next : (n : ℕ) (p q : Parts) (kind : BlockKind) (words body : List (List ℕ)) (end : Option (List ℕ)) → block_after n p kind words body end ≡ Ok q → Next p.last q.last (Some Program)
unfolding block_after
block_next n p q kind words body end h =
    let a = bind_ok (at n (header_of p words)) (λ header. code_of kind n body >>= λ code. at (n + 1 + length body) (program_after p header code end)) q h in
    let s = header_ok p words a.0 (at_ok n (header_of p words) a.0 a.1) in
    let b = bind_ok (code_of kind n body) (λ code. at (n + 1 + length body) (program_after p a.0 code end)) q a.2 in
    let o = program_ok p q a.0 b.0 end (at_ok (n + 1 + length body) (program_after p a.0 b.0 end) q b.2) in
    (s.stage, ap (λ (q : Parts). q.last) (sym o.1))

section_next : (n : ℕ) (p q : Parts) (section : Section) → section_after n p section ≡ Ok q → Next p.last q.last (stage_in section)
section_next n p q (Single line) h = line_next n p q line (at_ok n (line_after n p line) q h)
section_next n p q (Block kind words body end) h = block_next n p q kind words body end h

next_in_order : (o : Option Stage) (p q : Parts) (stages : List Stage) → Next p.last q.last o → in_order q.last stages ≡ true → in_order p.last (cons_option o stages) ≡ true
next_in_order None p q stages next more = rw (← next) more
next_in_order (Some stage) p q stages next more = rw next.0 (rw (← next.1) more)

-- sections that are all taken, and end with `run`, come in order
pub taken_in_order : (n m : ℕ) (p q : Parts) (sections : List Section) → sections_after n p sections ≡ Ok (m, q) → q.last ≡ Some Run → in_order p.last (stages_of sections) ≡ true
unfolding sections_after
taken_in_order n m p q [] h last =
    let start : ℕ × Parts = (n, p) in
    let end : ℕ × Parts = (m, q) in
    let pairs : start ≡ end = cc in
    rw (ap (λ (x : ℕ × Parts). x.1.last) pairs ∙ last) refl
taken_in_order n m p q (section ∷ others) h last =
    let a = bind_ok (section_after n p section) (λ q. sections_after (n + line_count section) q others) (m, q) h in
    next_in_order (stage_in section) p a.0 (stages_of others) (section_next n p a.0 section a.1) (taken_in_order (n + line_count section) m a.0 q others a.2 last)
