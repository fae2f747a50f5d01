-- The schedule of a script is one of the set's cores.
use Rattle.std.proofs.Common.{◌≡◌, ℕ, List, length, cond, Bool, true, false, Option, Some, None, Result, Ok, Err, subst, ltb, refl}
use Rattle.std.specs.Str.Lines.{lines}
use Rattle.script.specs.declared.keyword.Stage.{Stage}
use Rattle.script.specs.declared.keyword.Stage.TheVariants.{Nvk, Cores, Memory, Records, Object, Program, Task, Schedule, Run}
use Rattle.script.specs.declared.refusals.ScriptCause.TheVariants.{Long}
use Rattle.script.specs.Causes.{ScriptError}
use Rattle.nv_base.specs.Results.{◌>>=◌}
use Rattle.script.specs.Parts.{Parts, Script, nothing, script_of}
use Rattle.nv_base.specs.Refusals.{at}
use Rattle.script.specs.Reading.{read, ended, is_whole, sections_after}
use Rattle.script.specs.Sections.{sections}

abbrev SameCores : Script → Type 0
SameCores s = s.schedule.cores ≡ s.set.cores

abbrev given : Parts → Result Script ScriptError
given p = Ok (script_of p)

of_parts : (p : Parts) (s : Script) → given p ≡ Ok s → SameCores s
of_parts p s e = let same : script_of p ≡ s = cc in subst (λ t. t.schedule.cores ≡ t.set.cores) same refl

by_stage : (n : ℕ) (p : Parts) (s : Script) (last : Option Stage) → (at n (is_whole p last) >>= λ q. Ok (script_of q)) ≡ Ok s → SameCores s
by_stage n p s (Some Run) e = of_parts p s e
by_stage n p s None e = absurd cc
by_stage n p s (Some Nvk) e = absurd cc
by_stage n p s (Some Cores) e = absurd cc
by_stage n p s (Some Memory) e = absurd cc
by_stage n p s (Some Records) e = absurd cc
by_stage n p s (Some Object) e = absurd cc
by_stage n p s (Some Program) e = absurd cc
by_stage n p s (Some Task) e = absurd cc
by_stage n p s (Some Schedule) e = absurd cc

by_parts : (r : Result (ℕ × Parts) ScriptError) (s : Script) → (r >>= ended) ≡ Ok s → SameCores s
by_parts (Ok r) s e = by_stage r.0 r.1 s r.1.last e
by_parts (Err x) s e = absurd cc

by_length : (long : Bool) (r : Result (ℕ × Parts) ScriptError) (s : Script) → cond long (at 0 (Err Long)) (r >>= ended) ≡ Ok s → SameCores s
by_length true r s e = absurd cc
by_length false r s e = by_parts r s e

pub same_cores : (bytes : List ℕ) (s : Script) → read bytes ≡ Ok s → SameCores s
unfolding read
same_cores bytes s e = by_length (ltb 1048576 (length bytes)) (sections_after 1 nothing (sections (lines bytes))) s e
