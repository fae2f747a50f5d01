-- The script that `make` runs is read, whatever the seed is.
use Rattle.std.proofs.Common.{◌≡◌, ℕ, ◌+◌, ◌<◌, ◌≤◌, ◌^◌, ◌-◌, ◌&&◌, Bool, true, false, List, [], ◌∷◌, ◌++◌, length, replicate, Option, None, Some, Result, Ok, Err, refl, ap, sym, ◌∙◌, ltb, arith, codes, length-append, append_assoc}
use Rattle.std.specs.Fmt.{decimal}
use Rattle.std.specs.List.{AllByRecursion, list_all}
use Rattle.std.specs.Str.Lines.{lines}
use Rattle.std.proofs.lemmas.Grind.{flat_map-append}
use Rattle.std.proofs.lemmas.Bool.{and_parts, le-ltb, ltb-true}
use Rattle.nv_base.specs.Results.{◌>>=◌}
use Rattle.schedule_model.specs.Schedules.{Mix}
use Rattle.plain_text.specs.Words.{is_plain, line_words}
use Rattle.script.specs.declared.keyword.Stage.{Stage}
use Rattle.script.specs.declared.keyword.Stage.TheVariants as stages
use Rattle.script.specs.Causes.{ScriptError}
use Rattle.script.specs.Keywords.{block_kind_of}
use Rattle.script.specs.Lines.{line_after, words_after}
use Rattle.script.specs.Parts.{Parts, Script, Timeline, nothing, script_of}
use Rattle.script.specs.Reading.{read, section_after, sections_after}
use Rattle.script.specs.Blocks.{block_after, code_after, code_lines_after, header_of, program_after}
use Rattle.script.specs.SetLines.{cores_after, first_values, format_after, memory_after, object_after, records_after, task_after}
use Rattle.script.specs.ScheduleLines.{mix_after, power_after, steps_after}
use Rattle.rv_asm.specs.Assembly.{body_words}
use Rattle.rv_asm.specs.Assembly.{line_after as assembled_line, lines_after as assembled_lines}
use Rattle.rv_asm.specs.Forms.{branch_templates, form_named, imm_templates, load_templates, op_templates, pseudo_forms, single_templates, store_templates, templates}
use Rattle.rv_asm.specs.Labels.{labels_from}
use Rattle.rv_asm.specs.Loads.{loads}
use Rattle.rv_asm.specs.Operands.{address_of, fill, filled}
use Rattle.rv_asm.specs.Registers.{register_of}
use Rattle.script.specs.Sections.{Section, Single, line_count, opened, sections_from}
use Rattle.script_text.proofs.WrittenLines.{IsLine, IsWritten, is_line_byte, joined, joined_lines, line_is_plain, literal, spaced_line, spaced_words}
use Rattle.script_text.proofs.WrittenWords.{decimal_is, decimal_written, number_back}
use Rattle.sim_run.specs.MadeScript.{IsMade, filter_lines, front_text, made_text, send_lines, sense_lines, set_lines, task_lines}

-- ---- its lines

-- all lines before the one that draws the steps
abbrev front : List (List ℕ)
front = set_lines ++ sense_lines ++ filter_lines ++ send_lines ++ task_lines

abbrev mix_line : ℕ → List ℕ
mix_line n = codes "mix " ++ decimal n ++ codes " 20000"

abbrev made_lines : ℕ → List (List ℕ)
made_lines n = front ++ mix_line n ∷ codes "run" ∷ []

joined_append : (a b : List (List ℕ)) → joined (a ++ b) ≡ joined a ++ joined b
joined_append a b = flat_map-append (λ line. line ++ 10 ∷ []) a b

-- behind the seed
tail_is : (d : List ℕ) → d ++ codes " 20000\nrun\n" ≡ ((d ++ codes " 20000") ++ codes "\n") ++ codes "run\n"
tail_is d = sym (append_assoc (d ++ codes " 20000") (codes "\n") (codes "run\n") ∙ append_assoc d (codes " 20000") (codes "\nrun\n"))

pub made_joined : (n : ℕ) → made_text n ≡ joined (made_lines n)
unfolding made_text front_text
made_joined n =
    append_assoc (joined front ++ codes "mix ") (decimal n) (codes " 20000\nrun\n")
    ∙ append_assoc (joined front) (codes "mix ") (decimal n ++ codes " 20000\nrun\n")
    ∙ ap (λ (t : List ℕ). joined front ++ (codes "mix " ++ t)) (tail_is (decimal n))
    ∙ sym (joined_append front (mix_line n ∷ codes "run" ∷ []))

abbrev is_line : List ℕ → Bool
is_line l = list_all is_line_byte l && ltb 0 (length l)

lines_then : (ls rest : List (List ℕ)) → list_all is_line ls ≡ true → AllByRecursion IsLine rest → AllByRecursion IsLine (ls ++ rest)
lines_then [] rest e h = h
lines_then (l ∷ ls) rest e h =
    let a = and_parts (is_line l) (list_all is_line ls) e in
    let b = and_parts (list_all is_line_byte l) (ltb 0 (length l)) a.0 in
    (record { bytes = b.0; some = ltb-true 0 (length l) b.1 }, lines_then ls rest a.1 h)

abbrev mix_words : ℕ → List (List ℕ)
mix_words n = decimal n ∷ codes "20000" ∷ []

mix_written : (n : ℕ) → n < 2 ^ 32 → AllByRecursion IsWritten (mix_words n)
mix_written n small = (decimal_written n small, (literal (codes "20000") refl, tt))

mix_is_line : (n : ℕ) → n < 2 ^ 32 → IsLine (mix_line n)
mix_is_line n small = spaced_line (codes "mix") (mix_words n) (literal (codes "mix") refl) (mix_written n small)

mix_is_words : (n : ℕ) → n < 2 ^ 32 → line_words (mix_line n) ≡ codes "mix" ∷ mix_words n
mix_is_words n small = spaced_words (codes "mix") (mix_words n) (literal (codes "mix") refl) (mix_written n small)

last_lines : (n : ℕ) → n < 2 ^ 32 → AllByRecursion IsLine (mix_line n ∷ codes "run" ∷ [])
last_lines n small = (mix_is_line n small, (record { bytes = refl; some = omega arith }, tt))

made_cut : (n : ℕ) → n < 2 ^ 32 → lines (made_text n) ≡ made_lines n
made_cut n small = ap lines (made_joined n) ∙ joined_lines (made_lines n) (lines_then front (mix_line n ∷ codes "run" ∷ []) refl (last_lines n small))

-- ---- its sections

opened_none : (line first : List ℕ) (others : List (List ℕ)) → is_plain line ≡ true → line_words line ≡ first ∷ others → block_kind_of first ≡ None → opened line ≡ None
opened_none line first others plain words kind = rw (plain, words, kind) refl

mix_opens_none : (n : ℕ) → n < 2 ^ 32 → opened (mix_line n) ≡ None
mix_opens_none n small = opened_none (mix_line n) (codes "mix") (mix_words n) (line_is_plain (mix_line n) (mix_is_line n small)) (mix_is_words n small) refl

alone_first : (line : List ℕ) (rest : List (List ℕ)) → opened line ≡ None → sections_from None (line ∷ rest) ≡ Single line ∷ sections_from None rest
unfolding sections_from
alone_first line rest e = rw e refl

run_alone : sections_from None (codes "run" ∷ []) ≡ Single (codes "run") ∷ []
unfolding sections_from
run_alone = refl

last_sections : (n : ℕ) → n < 2 ^ 32 → sections_from None (mix_line n ∷ codes "run" ∷ []) ≡ Single (mix_line n) ∷ Single (codes "run") ∷ []
last_sections n small = alone_first (mix_line n) (codes "run" ∷ []) (mix_opens_none n small) ∙ ap (λ (s : List Section). Single (mix_line n) ∷ s) run_alone

front_cut : (rest : List (List ℕ)) → sections_from None (front ++ rest) ≡ sections_from None front ++ sections_from None rest
unfolding sections_from
front_cut rest = refl

-- ---- what they give

sections_append : (s t : List Section) (n : ℕ) (p : Parts) → sections_after n p (s ++ t) ≡ (sections_after n p s >>= λ x. sections_after x.0 x.1 t)
unfolding sections_after
sections_append [] t n p = refl
sections_append (x ∷ s) t n p = go (λ q. sections_append s t (n + line_count x) q) (section_after n p x)
  where
    go : ((q : Parts) → sections_after (n + line_count x) q (s ++ t) ≡ (sections_after (n + line_count x) q s >>= λ y. sections_after y.0 y.1 t)) → (r : Result Parts ScriptError)
        → (r >>= λ q. sections_after (n + line_count x) q (s ++ t)) ≡ ((r >>= λ q. sections_after (n + line_count x) q s) >>= λ y. sections_after y.0 y.1 t)
    go more (Ok q) = more q
    go more (Err e) = refl

abbrev front_read : Result (ℕ × Parts) ScriptError
front_read = sections_after 1 nothing (sections_from None front)

abbrev forty : List ℕ
forty = replicate 40 500

-- what the last lines rest on
record Seen : Type 0 where
  last : Option Stage
  timeline : Timeline
  cores : ℕ

abbrev seen : Result (ℕ × Parts) ScriptError → Option Seen
seen (Ok x) = Some (record { last = x.1.last; timeline = x.1.timeline; cores = x.1.set.cores })
seen (Err e) = None

abbrev front_seen : Seen
front_seen = record { last = Some stages.Schedule; timeline = record { items = []; on_times = forty }; cores = 2 }

front_is_read : seen front_read ≡ Some front_seen
unfolding sections_from sections_after words_after format_after cores_after memory_after records_after object_after first_values block_after header_of program_after task_after power_after code_after code_lines_after mix_after steps_after labels_from assembled_lines assembled_line form_named templates single_templates branch_templates load_templates store_templates imm_templates op_templates pseudo_forms body_words loads address_of fill filled register_of
front_is_read = refl

-- what is read so, with these
record IsFront (r : Result (ℕ × Parts) ScriptError) : Type 0 where
  number : ℕ
  parts : Parts
  read : r ≡ Ok (number, parts)
  last : parts.last ≡ Some stages.Schedule
  timeline : parts.timeline ≡ record { items = []; on_times = forty }
  cores : parts.set.cores ≡ 2

front_from : (r : Result (ℕ × Parts) ScriptError) → seen r ≡ Some front_seen → IsFront r
front_from (Ok x) e =
    let same : record { last = x.1.last; timeline = x.1.timeline; cores = x.1.set.cores } ≡ front_seen = cc e in record {
      number = x.0;
      parts = x.1;
      read = refl;
      last = ap (λ (s : Seen). s.last) same;
      timeline = ap (λ (s : Seen). s.timeline) same;
      cores = ap (λ (s : Seen). s.cores) same;
    }
front_from (Err e) f = absurd (cc f)

the_front : IsFront front_read
the_front = front_from front_read front_is_read

-- ---- the two last lines

abbrev with_mix : ℕ → Timeline
with_mix n = record { items = Mix n 20000 ∷ []; on_times = forty }

mix_read : (n : ℕ) → n < 2 ^ 32 → mix_after (record { items = []; on_times = forty }) (mix_words n) ≡ Ok (with_mix n)
unfolding mix_after
mix_read n small = rw (number_back 0 (2 ^ 32 - 1) n (omega arith) (omega arith) small) refl

mix_taken : (m : ℕ) (p : Parts) (n : ℕ) → n < 2 ^ 32 → p.last ≡ Some stages.Schedule → p.timeline ≡ record { items = []; on_times = forty }
    → words_after m p (codes "mix" ∷ mix_words n) ≡ Ok (record p { last = Some stages.Schedule; timeline = with_mix n })
unfolding words_after
mix_taken m p n small last times = rw (last, times, mix_read n small) refl

run_taken : (m : ℕ) (p : Parts) → p.last ≡ Some stages.Schedule → line_after m p (codes "run") ≡ Ok (record p { last = Some stages.Run })
unfolding words_after
run_taken m p last = rw last refl

line_taken : (m : ℕ) (p q : Parts) (line : List ℕ) (words : List (List ℕ)) → is_plain line ≡ true → line_words line ≡ words → words_after m p words ≡ Ok q → line_after m p line ≡ Ok q
line_taken m p q line words plain cut h = rw (plain, cut) h

two_taken : (m : ℕ) (p q r : Parts) (a b : List ℕ) → line_after m p a ≡ Ok q → line_after (m + 1) q b ≡ Ok r → sections_after m p (Single a ∷ Single b ∷ []) ≡ Ok (m + 1 + 1, r)
unfolding sections_after
two_taken m p q r a b h g = rw (h, g) refl

abbrev made_parts : Parts → ℕ → Parts
made_parts p n = record p { last = Some stages.Run; timeline = with_mix n }

last_taken : (m : ℕ) (p : Parts) (n : ℕ) → n < 2 ^ 32 → p.last ≡ Some stages.Schedule → p.timeline ≡ record { items = []; on_times = forty }
    → sections_after m p (Single (mix_line n) ∷ Single (codes "run") ∷ []) ≡ Ok (m + 1 + 1, made_parts p n)
last_taken m p n small last times =
    let q : Parts = record p { last = Some stages.Schedule; timeline = with_mix n } in
    let mix = line_taken m p q (mix_line n) (codes "mix" ∷ mix_words n) (line_is_plain (mix_line n) (mix_is_line n small)) (mix_is_words n small) (mix_taken m p n small last times) in
    two_taken m p q (made_parts p n) (mix_line n) (codes "run") mix (run_taken (m + 1) q refl)

-- ---- all of it

sections_taken : (n : ℕ) → n < 2 ^ 32 → (f : IsFront front_read) → sections_after 1 nothing (sections_from None (made_lines n)) ≡ Ok (f.number + 1 + 1, made_parts f.parts n)
sections_taken n small f =
    let rest = mix_line n ∷ codes "run" ∷ [] in
    ap (sections_after 1 nothing) (front_cut rest ∙ ap (λ (s : List Section). sections_from None front ++ s) (last_sections n small))
    ∙ sections_append (sections_from None front) (Single (mix_line n) ∷ Single (codes "run") ∷ []) 1 nothing
    ∙ ap (λ (r : Result (ℕ × Parts) ScriptError). r >>= λ y. sections_after y.0 y.1 (Single (mix_line n) ∷ Single (codes "run") ∷ [])) f.read
    ∙ last_taken f.number f.parts n small f.last f.timeline

front_length : length front_text ≡ 1174
unfolding front_text
front_length = refl

pub made_short : (n : ℕ) → n < 2 ^ 32 → length (made_text n) ≤ 1048576
unfolding made_text
made_short n small =
    let few = (decimal_is n small).few in
    omega (arith, few, front_length, length-append (front_text ++ codes "mix " ++ decimal n) (codes " 20000\nrun\n"), length-append (front_text ++ codes "mix ") (decimal n), length-append front_text (codes "mix "))

pub made_is_read : (n : ℕ) → n < 2 ^ 32 → (s : Script) × IsMade n s
unfolding read
made_is_read n small =
    let f = the_front in
    let not_long : ltb 1048576 (length (made_text n)) ≡ false = le-ltb _ _ (made_short n small) in (
      script_of (made_parts f.parts n),
      record {
        reads = rw (not_long, made_cut n small, sections_taken n small f) refl;
        schedule = ap (λ (c : ℕ). record { cores = c; items = Mix n 20000 ∷ []; on_times = forty }) f.cores;
      },
    )
