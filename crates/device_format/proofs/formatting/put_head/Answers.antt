use Rattle.std.proofs.Common.{◌≡◌, ◌≢◌, ◌+◌, ◌-◌, ap, arith, refl, sym, ◌∙◌}
use Rattle.std.proofs.lemmas.Result.{on_err_weaker, on_ok_weaker}
use Rattle.set_model.specs.Sets.{TaskSet}
use Rattle.set_model.specs.Formatted.{formatted}
use Rattle.device_model.specs.Words.{Words}
use Rattle.device_model.specs.Layouts.{Kind, Layout}
use Rattle.device_model.specs.Formats.{format_word, formatted_index}
use Rattle.device_model.specs.Devices.{Device, layout_on}
use Rattle.device_model.proofs.ForCallers.{fresh-root}
use Rattle.shadow_index.specs.Views.{kind_of}
use Rattle.device_format.specs.Shown.{device_in}
use Rattle.device_format.proofs.Putting.{at_err, front_at, front_in, front_more, put_at, put_more}
use Rattle.device_format.proofs.Places.{head_paged, head_plain, head_within, seven_words}
use Rattle.device_format.proofs.formatting.put_head.Goals as goal

pub put_header-requires-clause-end : goal.put_header-requires-clause-end
put_header-requires-clause-end g c =
    let set : TaskSet = c.args.set.now in
    let kind : Kind = kind_of c.args.places.now.kind in
    let d : Device = device_in set c.args.places.now in
    let l : Layout = layout_on d in
    let w : Words = format_word l set in
    let root : c.root_at-root.result ≡ l.root = c.root_at-root.ensures d c.requires.table in
    c.head_reads.ensures d c.requires.table ∙ (head_plain kind set c.requires.kind (omega (arith, root, c.if-root-eq1.true))).0

pub returns-then-root-eq1-clause-put : goal.returns-then-root-eq1-clause-put
returns-then-root-eq1-clause-put g c =
    let set : TaskSet = c.args.set.now in
    let kind : Kind = kind_of c.args.places.now.kind in
    let d : Device = device_in set c.args.places.now in
    let l : Layout = layout_on d in
    let w : Words = format_word l set in
    let root : c.root_at-root.result ≡ l.root = c.root_at-root.ensures d c.requires.table in
    let head = head_plain kind set c.requires.kind (omega (arith, root, c.if-root-eq1.true)) in
    let end : c.head_reads.result - 1 ≡ l.pages_at - 1 = omega (arith, c.head_reads.ensures d c.requires.table, head.0, head.1) in
    on_ok_weaker c.put_header.result (put_at w 1 (c.head_reads.result - 1) 1 (l.pages_at - 1) _ _ refl end) c.put_header.ensures.put

pub returns-then-root-eq1-clause-front : goal.returns-then-root-eq1-clause-front
returns-then-root-eq1-clause-front g c =
    let set : TaskSet = c.args.set.now in
    let kind : Kind = kind_of c.args.places.now.kind in
    let d : Device = device_in set c.args.places.now in
    let l : Layout = layout_on d in
    let w : Words = format_word l set in
    let root : c.root_at-root.result ≡ l.root = c.root_at-root.ensures d c.requires.table in
    let head = head_plain kind set c.requires.kind (omega (arith, root, c.if-root-eq1.true)) in
    let end : c.head_reads.result - 1 ≡ l.pages_at - 1 = omega (arith, c.head_reads.ensures d c.requires.table, head.0, head.1) in
    on_err_weaker c.put_header.result (front_at w 1 (c.head_reads.result - 1) 1 (l.pages_at - 1) _ _ refl end) c.put_header.ensures.front

pub put_header-requires-2-clause-end : goal.put_header-requires-2-clause-end
put_header-requires-2-clause-end g c =
    let set : TaskSet = c.args.set.now in
    let kind : Kind = kind_of c.args.places.now.kind in
    let d : Device = device_in set c.args.places.now in
    let l : Layout = layout_on d in
    let w : Words = format_word l set in
    let root : c.root_at-root.result ≡ l.root = c.root_at-root.ensures d c.requires.table in
    let apart : l.root ≢ 1 = λ e. omega (arith, root, e, c.if-root-eq1.false) in
    let head = head_paged kind set c.requires.kind apart in
    let seven = seven_words set in
    root ∙ head.0

pub returns-in_err-put_header-clause-front : goal.returns-in_err-put_header-clause-front
returns-in_err-put_header-clause-front g c =
    let set : TaskSet = c.args.set.now in
    let kind : Kind = kind_of c.args.places.now.kind in
    let d : Device = device_in set c.args.places.now in
    let l : Layout = layout_on d in
    let w : Words = format_word l set in
    let root : c.root_at-root.result ≡ l.root = c.root_at-root.ensures d c.requires.table in
    let apart : l.root ≢ 1 = λ e. omega (arith, root, e, c.if-root-eq1.false) in
    let head = head_paged kind set c.requires.kind apart in
    let seven = seven_words set in
    at_err c.from_residual.result (front_in w 1 (c.root_at-root.result - 1) 1 (l.pages_at - 1) _ _ refl (omega (arith, root, head.1)) c.in_err-put_header.ensures.front)

pub write-requires : goal.write-requires
write-requires g c =
    let set : TaskSet = c.args.set.now in
    let kind : Kind = kind_of c.args.places.now.kind in
    let d : Device = device_in set c.args.places.now in
    let l : Layout = layout_on d in
    let w : Words = format_word l set in
    let root : c.root_at-root.result ≡ l.root = c.root_at-root.ensures d c.requires.table in
    let apart : l.root ≢ 1 = λ e. omega (arith, root, e, c.if-root-eq1.false) in
    let head = head_paged kind set c.requires.kind apart in
    let seven = seven_words set in
    rw c.put_header-2.ensures.same (omega (arith, root, head.1, head_within l set, c.requires.room))

pub returns-clause-put : goal.returns-clause-put
returns-clause-put g c =
    let set : TaskSet = c.args.set.now in
    let kind : Kind = kind_of c.args.places.now.kind in
    let d : Device = device_in set c.args.places.now in
    let l : Layout = layout_on d in
    let w : Words = format_word l set in
    let root : c.root_at-root.result ≡ l.root = c.root_at-root.ensures d c.requires.table in
    let apart : l.root ≢ 1 = λ e. omega (arith, root, e, c.if-root-eq1.false) in
    let head = head_paged kind set c.requires.kind apart in
    let seven = seven_words set in
    let place : c.root_at-root.result ≡ 1 + (c.root_at-root.result - 1) = omega (arith, root, head.0, seven) in
    let value : c.first_root.result ≡ w (1 + (c.root_at-root.result - 1)) = c.first_root.ensures d c.requires.table ∙ sym (fresh-root l set (formatted_index set) (formatted set).objects) ∙ ap w (sym root ∙ place) in
    on_ok_weaker c.write.result
    (λ k. put_at w 1 (c.root_at-root.result - 1 + 1) 1 (l.pages_at - 1) _ _ refl (omega (arith, root, head.0, head.1, seven))
    (put_more w 1 (c.root_at-root.result - 1) c.root_at-root.result c.first_root.result _ _ _ c.in_ok-put_header.ensures.put k place value))
    c.write.ensures.written

pub returns-clause-front : goal.returns-clause-front
returns-clause-front g c =
    let set : TaskSet = c.args.set.now in
    let kind : Kind = kind_of c.args.places.now.kind in
    let d : Device = device_in set c.args.places.now in
    let l : Layout = layout_on d in
    let w : Words = format_word l set in
    let root : c.root_at-root.result ≡ l.root = c.root_at-root.ensures d c.requires.table in
    let apart : l.root ≢ 1 = λ e. omega (arith, root, e, c.if-root-eq1.false) in
    let head = head_paged kind set c.requires.kind apart in
    let seven = seven_words set in
    let place : c.root_at-root.result ≡ 1 + (c.root_at-root.result - 1) = omega (arith, root, head.0, seven) in
    let value : c.first_root.result ≡ w (1 + (c.root_at-root.result - 1)) = c.first_root.ensures d c.requires.table ∙ sym (fresh-root l set (formatted_index set) (formatted set).objects) ∙ ap w (sym root ∙ place) in
    on_err_weaker c.write.result
    (λ k. front_more w 1 (c.root_at-root.result - 1) c.root_at-root.result c.first_root.result (l.pages_at - 1) _ _ _ c.in_ok-put_header.ensures.put k place value (omega (arith, root, head.0, head.1, seven)))
    c.write.ensures.either
