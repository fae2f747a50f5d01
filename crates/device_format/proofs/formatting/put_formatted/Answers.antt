use Rattle.std.proofs.Common.{◌≡◌, ℕ, ◌+◌, ◌-◌, ◌*◌, sum_by, arith, refl}
use Rattle.std.proofs.lemmas.Result.{on_err_weaker, on_ok_weaker}
use Rattle.set_model.specs.Sets.{TaskSet}
use Rattle.set_model.specs.Formatted.{formatted}
use Rattle.device_model.specs.Words.{Words}
use Rattle.device_model.specs.Layouts.{Kind, Layout, index_reads, slots_at, slots_words}
use Rattle.device_model.specs.Formats.{format_word, formatted_index}
use Rattle.device_model.specs.Devices.{Device, layout_on, need_on}
use Rattle.device_model.proofs.ForCallers.{laid_out_set}
use Rattle.shadow_index.specs.Views.{kind_of}
use Rattle.device_format.specs.Shown.{device_in}
use Rattle.device_format.proofs.Putting.{at_err, front_then, put_then}
use Rattle.device_format.proofs.Places.{seven_words}
use Rattle.device_format.proofs.FreshPlaces.{first_objects, fresh_pages}
use Rattle.device_format.proofs.formatting.put_formatted.Goals as goal

pub returns-in_err-put_pages-clause-front : goal.returns-in_err-put_pages-clause-front
returns-in_err-put_pages-clause-front g c =
    let set : TaskSet = c.args.set.now in
    let kind : Kind = kind_of c.args.places.now.kind in
    let d : Device = device_in set c.args.places.now in
    let l : Layout = layout_on d in
    let w : Words = format_word l set in
    let laid = laid_out_set kind set c.requires.set in
    let low = laid.header_first in
    let seven = seven_words set in
    let behind : l.pages_at ≡ 1 + (l.pages_at - 1) = omega (arith, low, seven) in
    let pages = fresh_pages l set (formatted_index set) (formatted set).objects laid in
    let objects = first_objects l set c.requires.set laid in
    let all : ℕ = sum_by slots_words set.objects in
    at_err c.from_residual-in_err-put_pages.result (front_then w 1 (l.pages_at - 1) l.pages_at (2 * index_reads l) (need_on d - 1) _ _ _ c.in_ok-put_head.ensures.put (c.in_err-put_pages.ensures.front w pages) behind (omega (arith, low, seven)))

pub returns-clause-put : goal.returns-clause-put
returns-clause-put g c =
    let set : TaskSet = c.args.set.now in
    let kind : Kind = kind_of c.args.places.now.kind in
    let d : Device = device_in set c.args.places.now in
    let l : Layout = layout_on d in
    let w : Words = format_word l set in
    let laid = laid_out_set kind set c.requires.set in
    let low = laid.header_first in
    let seven = seven_words set in
    let behind : l.pages_at ≡ 1 + (l.pages_at - 1) = omega (arith, low, seven) in
    let pages = fresh_pages l set (formatted_index set) (formatted set).objects laid in
    let objects = first_objects l set c.requires.set laid in
    let all : ℕ = sum_by slots_words set.objects in
    on_ok_weaker c.put_first_objects.result
    (λ k. put_then w 1 (l.pages_at - 1 + 2 * index_reads l) (slots_at l) all (need_on d - 1) _ _ _
    (put_then w 1 (l.pages_at - 1) l.pages_at (2 * index_reads l) (l.pages_at - 1 + 2 * index_reads l) _ _ _ c.in_ok-put_head.ensures.put (c.in_ok-put_pages.ensures.put w pages) behind refl)
    k (omega (arith, low, seven)) (omega (arith, low, seven)))
    (c.put_first_objects.ensures.put w objects)

pub returns-clause-front : goal.returns-clause-front
returns-clause-front g c =
    let set : TaskSet = c.args.set.now in
    let kind : Kind = kind_of c.args.places.now.kind in
    let d : Device = device_in set c.args.places.now in
    let l : Layout = layout_on d in
    let w : Words = format_word l set in
    let laid = laid_out_set kind set c.requires.set in
    let low = laid.header_first in
    let seven = seven_words set in
    let behind : l.pages_at ≡ 1 + (l.pages_at - 1) = omega (arith, low, seven) in
    let pages = fresh_pages l set (formatted_index set) (formatted set).objects laid in
    let objects = first_objects l set c.requires.set laid in
    let all : ℕ = sum_by slots_words set.objects in
    on_err_weaker c.put_first_objects.result
    (λ k. front_then w 1 (l.pages_at - 1 + 2 * index_reads l) (slots_at l) all (need_on d - 1) _ _ _
    (put_then w 1 (l.pages_at - 1) l.pages_at (2 * index_reads l) (l.pages_at - 1 + 2 * index_reads l) _ _ _ c.in_ok-put_head.ensures.put (c.in_ok-put_pages.ensures.put w pages) behind refl)
    k (omega (arith, low, seven)) (omega (arith, low, seven)))
    (c.put_first_objects.ensures.front w objects)
