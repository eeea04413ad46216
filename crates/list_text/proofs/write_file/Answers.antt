-- Counted and refused, or counted and put at the front of a buffer that has room for every file. Lending the array as a slice brings its
-- length.
use mathlib.Core.Path.{◌≡◌, refl, ap, ◌∙◌}
use native.Mathlib.Omega.{arith}
use Rattle.std.proofs.Common.{rules, Ok, Err}
use Rattle.list_line.specs.Reading.{parts, line_feed}
use Rattle.list_text.specs.Reading.{read_text}
use Rattle.list_text.specs.Answers.{Filed, filed_in}
use Rattle.list_text.proofs.Filings.{text_good, refused_write, sized, accepted_write}
use Rattle.list_text.proofs.write_file.Goals as goal

pub returns-in_err-bytes : goal.returns-in_err-bytes
returns-in_err-bytes c =
    let same : filed_in c.from_residual.result ≡ filed_in (Err c.in_err-bytes.field-0.0) = search rules in
    refused_write (read_text c.args.text.now) (filed_in c.from_residual.result) _ (same ∙ c.in_err-bytes.ensures)
    (ap (λ (f : Filed). f.bytes) same)

pub put_file-requires : goal.put_file-requires
put_file-requires c =
    let text = c.args.text.now in
    sized (read_text text) (parts line_feed text) (filed_in (Ok c.in_ok-bytes.bytes)) (text_good text) c.in_ok-bytes.ensures refl

pub returns : goal.returns
returns c =
    let text = c.args.text.now in
    accepted_write (read_text text) (parts line_feed text) (filed_in (Ok c.in_ok-bytes.bytes)) (text_good text) c.in_ok-bytes.ensures refl
    (omega arith) c.put_file.ensures
