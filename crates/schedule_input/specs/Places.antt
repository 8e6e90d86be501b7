-- Where the reading of a schedule stands.
use Rattle.std.specs.Prelude.{ℕ, List, refl}
use Rattle.std.specs.Coded.{Coded, code_by, coded×, coded_ℕ, coded_list}
use Rattle.schedule_text.specs.declared.reader.LineReader.{LineReader}
use Rattle.schedule_text.specs.contracts.reader.LineReader as reader

-- what the lines so far leave; the number of the next line, and how many bytes the lines before it have; the bytes that were read of it and of what is behind it
pub record Place : Type 0 where
  pub reader : LineReader
  pub number : ℕ
  pub end : ℕ
  pub left : List ℕ

abbrev pub place_code : Coded Place
place_code =
    code_by (LineReader × (ℕ × (ℕ × List ℕ))) (coded× reader.the_row.coded (coded× coded_ℕ (coded× coded_ℕ (coded_list coded_ℕ)))) (λ p. (p.reader, (p.number, (p.end, p.left)))) (λ q. record { reader = q.0; number = q.1.0; end = q.1.1.0; left = q.1.1.1 }) (λ _. refl)
