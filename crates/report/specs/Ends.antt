-- What a report keeps of its `end` line. This project's own.
use Rattle.std.specs.Prelude.{ℕ, List, get_or}
use Rattle.report.specs.declared.state_lines.End.{End}

-- clock, number and next id
pub record Numbers : Type 0 where
  pub clock : ℕ
  pub number : ℕ
  pub next : ℕ

abbrev pub end_of : End → Numbers
end_of e = record { clock = e.clock.0; number = e.number.0; next = e.next.0 }

-- of the values of the line
abbrev pub end_told : List ℕ → Numbers
end_told v = record { clock = get_or v 0 0; number = get_or v 1 0; next = get_or v 2 0 }
