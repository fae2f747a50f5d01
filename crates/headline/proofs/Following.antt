-- The images of a device, event by event.
use Rattle.std.proofs.Common.{◌≡◌, ◌⊎◌, inl, inr, ℕ, zero, suc, ◌+◌, ◌≤◌, List, [], ◌++◌, length, take, refl, sym, ap, ◌∙◌, subst, append_assoc, length-append, arith}
use Rattle.std.proofs.lemmas.Bool.Decides.{leb_tells}
use Rattle.std.proofs.lemmas.List.{append-nil, take_all, take-append-le}
use Rattle.kernel_model.specs.Events.{Event}
use Rattle.kernel_model.specs.Durable.{event_writes}
use Rattle.device_model.specs.Words.{Change}
use Rattle.recovery.specs.Images.{words_of}
use Rattle.headline.specs.Runs.{Origin, after, first_state, writes_by}
use Rattle.headline.specs.Images.{Decodes, HasGrown, HasImages}

pub none_made : (o : Origin) (events : List Event) (start : List ℕ) (log : List Change) → Decodes o (words_of log start) (first_state o) → HasImages o events start log log 0
none_made o events start log d = record {
  writes = [];
  grown = sym (append-nil log);
  count = refl;
  images = λ m k l e. at m k l e;
}
  where
    at : (m k : ℕ) → m ≤ 0 → writes_by o (take m events) ≡ k → Decodes o (words_of (log ++ take k []) start) (after o (take m events))
    at zero zero l e = subst (λ (x : List Change). Decodes o (words_of x start) (first_state o)) (sym (append-nil log)) d
    at zero (suc k) l e = absurd (omega (arith, e))
    at (suc m) k l e = absurd (omega (arith, l))

-- the writes of some events come first among those of more
pub one_more_made : (o : Origin) (events : List Event) (start : List ℕ) (before log grown : List Change) (n : ℕ) (e : Event)
    → ((m : ℕ) → m ≤ n → writes_by o (take m events) ≤ writes_by o (take n events))
    → writes_by o (take (n + 1) events) ≡ writes_by o (take n events) + event_writes (after o (take n events)) e
    → HasImages o events start before log n → HasGrown log grown (event_writes (after o (take n events)) e)
    → Decodes o (words_of grown start) (after o (take (n + 1) events)) → HasImages o events start before grown (n + 1)
one_more_made o events start before log grown n e grow sum h g d = record {
  writes = all;
  grown = whole;
  count = count;
  images = λ m k l f. elim (split m l) [ inl less ↦ early m k less f | inr same ↦ last m k same f ];
}
  where
    all : List Change
    all = h.writes ++ g.0

    whole : grown ≡ before ++ all
    whole = g.1 ∙ ap (λ (x : List Change). x ++ g.0) h.grown ∙ append_assoc before h.writes g.0

    count : length all ≡ writes_by o (take (n + 1) events)
    count = let s = length-append h.writes g.0 in let c = h.count in let w = g.2 in omega (arith, s, c, w, sum)

    split : (m : ℕ) → m ≤ n + 1 → (m ≤ n) ⊎ (m ≡ n + 1)
    split m l = elim (leb_tells m n) [ inl less ↦ inl less.1 | inr more ↦ let m = more.1 in inr (omega (arith, l, m)) ]

    early : (m k : ℕ) → m ≤ n → writes_by o (take m events) ≡ k → Decodes o (words_of (before ++ take k all) start) (after o (take m events))
    early m k l f =
        let few : k ≤ length h.writes = let c = h.count in let w = grow m l in omega (arith, f, c, w) in
        subst (λ (x : List Change). Decodes o (words_of (before ++ x) start) (after o (take m events))) (sym (take-append-le k h.writes g.0 few)) (h.images m k l f)

    last : (m k : ℕ) → m ≡ n + 1 → writes_by o (take m events) ≡ k → Decodes o (words_of (before ++ take k all) start) (after o (take m events))
    last m k same f =
        let now : writes_by o (take m events) ≡ writes_by o (take (n + 1) events) = ap (λ (j : ℕ). writes_by o (take j events)) same in
        let most : length all ≤ k = omega (arith, f, count, now) in
        subst (λ (x : List Change). Decodes o (words_of (before ++ x) start) (after o (take m events))) (sym (take_all k all most))
        (subst (λ (x : List Change). Decodes o (words_of x start) (after o (take m events))) whole (subst (λ (j : ℕ). Decodes o (words_of grown start) (after o (take j events))) (sym same) d))
