-- The lines of the schedule, by what each makes of the schedule so far. This project's own.
use Rattle.std.specs.Prelude.{ℕ, ◌+◌, ◌-◌, ◌^◌, ◌==◌, ◌&&◌, nat_le, nat_lt, Bool, not, List, [], ◌∷◌, ◌++◌, length, map, replicate, sum_by, Option, Some, None, Result, Ok, Err, if◌then◌else◌}
use Rattle.std.specs.List.{list_all, before_first, after_first, flat_map}
use Rattle.nv_base.specs.declared.limits.TheConstants.{MAX_EVENTS}
use Rattle.plain_text.specs.Numbers.{is_numeral, value_in}
use Rattle.schedule_model.specs.Schedules.{StepItem, Steps, Mix}
use Rattle.schedule_model.specs.Limits.{steps_together}
use Rattle.script.specs.declared.refusals.ScriptCause.{ScriptCause}
use Rattle.script.specs.declared.refusals.ScriptCause.TheVariants.{Count, Number, Range, Many}
use Rattle.script.specs.declared.items.OnTimes.{OnTimes}
use Rattle.nv_base.specs.Results.{◌>>=◌}
use Rattle.script.specs.Results.{each}
use Rattle.script.specs.Words.{number, two}
use Rattle.script.specs.Parts.{Timeline, event_count}

abbrev pub is_star : ℕ → Bool
is_star b = b == 42

-- how many times, behind a `*`: once where there is none
abbrev pub times_of : List ℕ → List ℕ → Option ℕ
times_of front word = if length front == length word then Some 1 else value_in 10 10 (after_first is_star word)

abbrev pub are_times : ℕ → Bool
are_times times = nat_le 1 times && nat_le times MAX_EVENTS

abbrev pub on_times_within : Option ℕ → Option ℕ → Result OnTimes ScriptCause
on_times_within (Some time) (Some times) =
    if nat_le time MAX_EVENTS && are_times times then Ok (record { time = time; times = times }) else Err Range
on_times_within _ _ = Err Number

-- `T` or `T*K`
abbrev pub on_times : List ℕ → Result OnTimes ScriptCause
on_times word = let front = before_first is_star word in on_times_within (value_in 10 10 front) (times_of front word)

abbrev pub steps_within : ℕ → List ℕ → Option ℕ → Result StepItem ScriptCause
steps_within cores digits None = Err Number
steps_within cores digits (Some times) =
    if not (is_numeral 10 32 digits) then Err Number
    else if list_all (λ d. nat_lt (d - 48) cores) digits && are_times times then Ok (Steps (map (λ d. d - 48) digits) times)
    else Err Range

-- `CORES` or `CORES*K`: each digit is a core
abbrev pub steps : ℕ → List ℕ → Result StepItem ScriptCause
steps cores word = let digits = before_first is_star word in steps_within cores digits (times_of digits word)

-- how many on-times there are
abbrev pub times_together : List OnTimes → ℕ
times_together times = sum_by (λ t. t.times) times

abbrev pub are_many : ℕ → Bool
are_many events = nat_lt MAX_EVENTS events

-- `power ITEM ..`
unfoldable pub power_after : Timeline → List (List ℕ) → Result Timeline ScriptCause
power_after t words =
    if length words == 0 then Err Count
    else do
      times ← each on_times words
      if are_many (event_count t + times_together times) then Err Many
          else Ok (record t { on_times = t.on_times ++ flat_map (λ on. replicate on.times on.time) times })

-- `steps ITEM ..`
unfoldable pub steps_after : ℕ → Timeline → List (List ℕ) → Result Timeline ScriptCause
steps_after cores t words =
    if length words == 0 then Err Count
    else do
      items ← each (steps cores) words
      if are_many (event_count t + steps_together items) then Err Many else Ok (record t { items = t.items ++ items })

-- `mix SEED COUNT`
unfoldable pub mix_after : Timeline → List (List ℕ) → Result Timeline ScriptCause
mix_after t words = do
  word ← two words
  seed ← number 0 (2 ^ 32 - 1) word.0
  count ← number 1 MAX_EVENTS word.1
  if are_many (event_count t + count) then Err Many else Ok (record t { items = t.items ++ Mix seed count ∷ [] })
