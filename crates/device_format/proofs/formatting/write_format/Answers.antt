use Rattle.std.proofs.Common.{◌≡◌, ◌-◌, ap, sym, ◌∙◌, subst}
use Rattle.std.proofs.lemmas.Result.{on_err_weaker, on_ok_weaker}
use Rattle.set_model.specs.Sets.{TaskSet}
use Rattle.device_model.specs.Layouts.{magic_of}
use Rattle.device_model.specs.Formats.{format_word}
use Rattle.device_model.specs.Devices.{Device, layout_on, need_on}
use Rattle.device_model.proofs.KeepsDecodes.{magic-is}
use Rattle.shadow_index.specs.Tells.{device_of}
use Rattle.device_format.specs.Puts.{HasPut, HasPutFront}
use Rattle.device_format.specs.Shown.{device_in}
use Rattle.device_format.proofs.FormatLogs.{format_begun, format_cut, format_ending, format_whole, same_device}
use Rattle.device_format.proofs.Putting.{at_err, last_or_none, last_word}
use Rattle.device_format.proofs.formatting.write_format.Goals as goal

pub returns-in_err-write-clause-front : goal.returns-in_err-write-clause-front
returns-in_err-write-clause-front g c = at_err c.from_residual.result (format_begun (device_of c.args.set.now 0) _ _ c.in_err-write.ensures.either)

pub returns-in_err-put_formatted-clause-front : goal.returns-in_err-put_formatted-clause-front
returns-in_err-put_formatted-clause-front g c =
    let set : TaskSet = c.args.set.now in
    let d : Device = device_of set 0 in
    let same : device_in set c.of-places.result ≡ d = same_device d c.of-places.result c.of-places.ensures in
    at_err c.from_residual-in_err-put_formatted.result (format_cut d _ _ _ c.in_ok-write.ensures.written
    (subst (λ (e : Device). HasPutFront (format_word (layout_on e) set) 1 (need_on e - 1) (g.F.Fram.log c.write.new.self) (g.F.Fram.log c.put_formatted.new.dev)) same c.in_err-put_formatted.ensures.front))

pub returns-clause-whole : goal.returns-clause-whole
returns-clause-whole g c =
    let set : TaskSet = c.args.set.now in
    let d : Device = device_of set 0 in
    let same : device_in set c.of-places.result ≡ d = same_device d c.of-places.result c.of-places.ensures in
    let magic : c.magic.result ≡ (layout_on d).magic = c.magic.ensures ∙ ap magic_of (c.kind.ensures d c.of-places.ensures) ∙ sym (magic-is d.kind set) in
    let put = subst (λ (e : Device). HasPut (format_word (layout_on e) set) 1 (need_on e - 1) (g.F.Fram.log c.write.new.self) (g.F.Fram.log c.put_formatted.new.dev)) same c.in_ok-put_formatted.ensures.put in
    on_ok_weaker c.write-2.result (λ k. format_whole d _ _ _ _ c.in_ok-write.ensures.written put (last_word 0 _ _ _ _ magic k)) c.write-2.ensures.written

pub returns-clause-front : goal.returns-clause-front
returns-clause-front g c =
    let set : TaskSet = c.args.set.now in
    let d : Device = device_of set 0 in
    let same : device_in set c.of-places.result ≡ d = same_device d c.of-places.result c.of-places.ensures in
    let magic : c.magic.result ≡ (layout_on d).magic = c.magic.ensures ∙ ap magic_of (c.kind.ensures d c.of-places.ensures) ∙ sym (magic-is d.kind set) in
    let put = subst (λ (e : Device). HasPut (format_word (layout_on e) set) 1 (need_on e - 1) (g.F.Fram.log c.write.new.self) (g.F.Fram.log c.put_formatted.new.dev)) same c.in_ok-put_formatted.ensures.put in
    on_err_weaker c.write-2.result (λ k. format_ending d _ _ _ _ c.in_ok-write.ensures.written put (last_or_none 0 _ _ _ _ magic k)) c.write-2.ensures.either
