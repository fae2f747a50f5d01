use Rattle.std.proofs.Common.{◌≡◌, ℕ, ◌+◌, ◌*◌, ◌<◌, ap, arith, refl, ◌∙◌}
use Rattle.device_model.specs.Layouts.{copy_place, index_reads}
use Rattle.device_model.specs.Devices.{layout_on}
use Rattle.device_format.specs.Shown.{device_in}
use Rattle.device_format.proofs.Putting.{at_err, front_then, put_at, put_none, put_then}
use Rattle.device_format.proofs.Places.{page_begins, pages_left}
use Rattle.device_format.proofs.pages.put_pages.Goals as goal

pub loop-page-init : goal.loop-page-init
loop-page-init g c = record {
  put = λ w h. put_at w (layout_on (device_in c.args.set.now c.args.places.now)).pages_at 0 _ _ _ _ refl (omega arith) (put_none w _ _);
  same = refl;
  never_falls = omega arith;
}

pub loop-page-preserved : goal.loop-page-preserved
loop-page-preserved g c =
    let d = device_in c.args.set.now c.args.places.now in
    let l = layout_on d in
    let page = c.loop-page.page in
    let before = c.loop-page.invariant in
    let within : page < l.pages = omega (arith, c.pages-page-end.ensures.exact d c.requires.table) in record {
      put = λ w h. put_then w l.pages_at (2 * (page * l.page_words)) (copy_place l page 0 0) (2 * l.page_words) (2 * ((page + 1) * l.page_words)) _ _ _
          (before.put w h) (c.in_ok-put_page.ensures.put w (h page within)) (page_begins l page) (omega arith);
      same = c.put_page.ensures.same ∙ before.same;
      never_falls = omega (arith, before.never_falls, c.put_page.ensures.never_falls);
    }

pub returns-in_err-put_page-clause-front : goal.returns-in_err-put_page-clause-front
returns-in_err-put_page-clause-front g c =
    let d = device_in c.args.set.now c.args.places.now in
    let l = layout_on d in
    let page = c.loop-page.page in
    let within : page < l.pages = omega (arith, c.pages-page-end.ensures.exact d c.requires.table) in
    λ w h. at_err c.from_residual.result (front_then w l.pages_at (2 * (page * l.page_words)) (copy_place l page 0 0) (2 * l.page_words) (2 * index_reads l) _ _ _
    (c.loop-page.invariant.put w h) (c.in_err-put_page.ensures.front w (h page within)) (page_begins l page) (pages_left l page within))

pub returns-clause-put : goal.returns-clause-put
returns-clause-put g c =
    let d = device_in c.args.set.now c.args.places.now in
    let l = layout_on d in
    let all : c.loop-page.page ≡ l.pages = omega (arith, c.pages-page-end.ensures.exact d c.requires.table, c.loop-page.auto.page-end) in
    λ w h. put_at w l.pages_at _ l.pages_at (2 * index_reads l) _ _ refl (ap (λ (n : ℕ). 2 * (n * l.page_words)) all) (c.loop-page.invariant.put w h)
