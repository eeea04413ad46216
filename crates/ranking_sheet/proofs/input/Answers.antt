-- The buffer has more bytes than an input may have.
use lib.ListN.{length}
use Rattle.text.proofs.Enough.{buffer_long}
use Rattle.ranking_sheet.proofs.Room.{enough_for_ranking}
use Rattle.ranking_sheet.proofs.input.Goals as goal

pub returns : goal.returns
returns c = enough_for_ranking (length c.file_buffer.result) (buffer_long c.file_buffer.result c.file_buffer.ensures)
