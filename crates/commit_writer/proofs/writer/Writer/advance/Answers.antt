use Rattle.std.proofs.Common.{⊎_elim, inl, inr, [], ◌∷◌, ◌++◌, ap, ◌∙◌, rules}
use Rattle.device_model.specs.Words.{Change}
use Rattle.commit_writer.proofs.Advancing.{looked_up_fits, then_done, then_writing, write_is}
use Rattle.commit_writer.proofs.Images.{on_err}
use Rattle.commit_writer.proofs.writer.Writer.advance.Goals as goal

pub write-requires : goal.write-requires
write-requires g c =
    let isw = g.C.Copies.is_written c.args.copies.now in
    let words = g.C.Copies.words c.args.copies.now in
    let h = c.requires.2 in
    looked_up_fits c.args.set.now c.requires.0 isw words c.requires.1 c.args.self.now c.write_at-place.result _ h (c.write_at-place.ensures c.requires.0 h.begun h.at) c.requires.3

pub returns-in_err-write-clause-lost : goal.returns-in_err-write-clause-lost
returns-in_err-write-clause-lost g c =
    let isw = g.C.Copies.is_written c.args.copies.now in
    let words = g.C.Copies.words c.args.copies.now in
    on_err c.from_residual.result _ (λ k count h.
    let e = write_is c.args.set.now k isw words count c.args.self.now c.write_at-place.result h (c.write_at-place.ensures k h.begun h.at) in
    ⊎_elim inl (λ made. inr (made ∙ ap (λ (w : Change). g.F.Fram.log c.args.dev.now ++ w ∷ []) e)) c.in_err-write.ensures.either)

pub returns-in-Done-clause-written : goal.returns-in-Done-clause-written
returns-in-Done-clause-written g c = λ k count h.
    let isw = g.C.Copies.is_written c.args.copies.now in
    let words = g.C.Copies.words c.args.copies.now in
    let e = write_is c.args.set.now k isw words count c.args.self.now c.write_at-place.result h (c.write_at-place.ensures k h.begun h.at) in
    c.in_ok-write.ensures.written ∙ ap (λ (w : Change). g.F.Fram.log c.args.dev.now ++ w ∷ []) e

pub returns-in-Done-clause-flipped : goal.returns-in-Done-clause-flipped
returns-in-Done-clause-flipped g c = λ _ k count h.
    let isw = g.C.Copies.is_written c.args.copies.now in
    let words = g.C.Copies.words c.args.copies.now in
    then_done c.args.set.now k isw words count c.args.self.now c.after-self.result h (c.after-self.ensures k isw words h.begun h.at h.set_is) c.in-Done.is

pub returns-in_default : goal.returns-in_default
returns-in_default g c =
    let isw = g.C.Copies.is_written c.args.copies.now in
    let words = g.C.Copies.words c.args.copies.now in
    record {
      written = λ k count h.
          let e = write_is c.args.set.now k isw words count c.args.self.now c.write_at-place.result h (c.write_at-place.ensures k h.begun h.at) in
          c.in_ok-write.ensures.written ∙ ap (λ (w : Change). g.F.Fram.log c.args.dev.now ++ w ∷ []) e;
      lost = tt;
      start = search rules;
      failed = tt;
      never_falls = search rules;
      wrote = λ _ k count h. then_writing c.args.set.now k isw words count c.args.self.now c.after-self.result h (c.after-self.ensures k isw words h.begun h.at h.set_is) c.in_default.not-Done;
      flipped = λ e. absurd (cc e);
      kept = search rules;
    }
