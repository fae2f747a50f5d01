-- Looking for the form of a mnemonic.
use Rattle.std.proofs.Common.{◌≡◌, ℕ, Bool, List, [], ◌∷◌, ◌++◌, find, map, option_map, nat_eq, refl, ap, ◌∙◌, inl, inr}
use Rattle.std.specs.Cmp.Lexicographic.{pointwise}
use Rattle.std.specs.Option.{option_or}
use Rattle.std.proofs.lemmas.Bool.{cases_Bool}
use Rattle.std.proofs.lemmas.List.Folds.{find-append}
use Rattle.rv_isa.specs.Names.{mnemonic_of}
use Rattle.rv_isa.specs.declared.instruction.Instr.{Instr}
use Rattle.rv_asm.specs.Forms.{Form, form_among, form_named, form_parts, instruction_form, templates, single_templates, branch_templates, load_templates, store_templates, imm_templates, op_templates, pseudo_forms}

six : (p : Instr → Bool) (a b c d e f : List Instr) → find p (a ++ b ++ c ++ d ++ e ++ f)
    ≡ option_or (option_or (option_or (option_or (option_or (find p a) (find p b)) (find p c)) (find p d)) (find p e)) (find p f)
six p a b c d e f =
    rw (find-append p (a ++ b ++ c ++ d ++ e) f, find-append p (a ++ b ++ c ++ d) e, find-append p (a ++ b ++ c) d, find-append p (a ++ b) c, find-append p a b) refl

pub found_among : (p : Instr → Bool) → find p templates
    ≡ option_or (option_or (option_or (option_or (option_or (find p single_templates) (find p branch_templates)) (find p load_templates)) (find p store_templates)) (find p imm_templates)) (find p op_templates)
unfolding templates
found_among p = six p single_templates branch_templates load_templates store_templates imm_templates op_templates

find-map : {X Y : Type 0} (p : Y → Bool) (f : X → Y) (xs : List X) → find p (map f xs) ≡ option_map f (find (λ x. p (f x)) xs)
find-map p f [] = refl
find-map p f (x ∷ xs) = elim (cases_Bool (p (f x))) [
  | inl e ↦ rw e refl
  | inr e ↦ rw (e, find-map p f xs) refl
]

-- an instruction's own form comes first
pub form_is : (word : List ℕ) → form_named word ≡ option_map form_parts (option_or (option_map instruction_form (find (λ i. pointwise nat_eq (mnemonic_of i) word) templates)) (form_among pseudo_forms word))
unfolding form_named
form_is word = ap (option_map form_parts)
    (find-append (λ (f : Form). pointwise nat_eq f.name word) (map instruction_form templates) pseudo_forms
    ∙ ap (λ o. option_or o (form_among pseudo_forms word)) (find-map (λ (f : Form). pointwise nat_eq f.name word) instruction_form templates))
