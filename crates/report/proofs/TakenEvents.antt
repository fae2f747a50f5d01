-- What the line of an event, or the `end` line, makes of a reading, test by test.
use Rattle.std.proofs.Common.{◌≡◌, ℕ, ◌≤◌, true, false, List, [], ◌∷◌, Option, Some, None, option_map, refl, sym, ap, map, nat_lt, get_or, length, ◌-◌, ◌<◌, suc, arith}
use Rattle.nv_base.specs.declared.lines.TaskRec as base_task
use Rattle.kernel_model.specs.Items.{Entry}
use Rattle.set_model.specs.Sets.{TaskSet}
use Rattle.set_model.specs.Views.{task_of}
use Rattle.std.proofs.lemmas.Option.{none-some, same_Some}
use Rattle.report.specs.Ends.{Numbers, end_told}
use Rattle.report.specs.LineReading.{is_quiet, finish_in, end_in}
use Rattle.report.specs.Readings.{Reading, after_event_line, after_finish, after_numbers, after_end, is_above}

pub finish_taken : (set : TaskSet) (r : Reading) (text : List ℕ) (e : Entry) → is_quiet set text ≡ false → finish_in set text ≡ Some e → after_event_line set r text ≡ Some (after_finish r e)
finish_taken set r text e loud told = rw (loud, told) refl

ended : (r : Reading) (o : Option (List ℕ)) (n : Numbers) → option_map end_told o ≡ Some n → option_map (after_end r) o ≡ Some (after_numbers r n)
ended r None n e = absurd (none-some n e)
ended r (Some v) n e = ap (λ m. Some (after_numbers r m)) (same_Some (end_told v) n e)

not_ended : (r : Reading) (o : Option (List ℕ)) → option_map end_told o ≡ None → option_map (after_end r) o ≡ None
not_ended r None e = refl
not_ended r (Some v) e = absurd (none-some (end_told v) (sym e))

pub end_taken : (set : TaskSet) (r : Reading) (text : List ℕ) (n : Numbers) → is_quiet set text ≡ false → finish_in set text ≡ None → option_map end_told (end_in set text) ≡ Some n → after_event_line set r text ≡ Some (after_numbers r n)
end_taken set r text n loud none told = rw (loud, none) (ended r (end_in set text) n told)

pub nothing_taken : (set : TaskSet) (r : Reading) (text : List ℕ) → is_quiet set text ≡ false → finish_in set text ≡ None → option_map end_told (end_in set text) ≡ None → after_event_line set r text ≡ None
nothing_taken set r text loud none told = rw (loud, none) (not_ended r (end_in set text) told)

-- the last of some tasks
pub last_is : (d : base_task.TaskRec) (tasks : List base_task.TaskRec) (id : ℕ) → 0 < length tasks → is_above (map task_of tasks) id ≡ nat_lt (get_or tasks (length tasks - 1) d).id.0 id
last_is d [] id some = absurd (omega arith)
last_is d (t ∷ []) id some = refl
last_is d (t ∷ u ∷ tasks) id some = let e : suc (suc (length tasks)) - 1 ≡ suc (suc (length tasks) - 1) = omega arith in rw e (last_is d (u ∷ tasks) id (omega arith))

pub none_is : (tasks : List base_task.TaskRec) (id : ℕ) → length tasks ≤ 0 → true ≡ is_above (map task_of tasks) id
none_is [] id none = refl
none_is (t ∷ tasks) id none = absurd (omega arith)
