-- The buffer has more bytes than a file may have.
use lib.ListN.{length}
use Rattle.text.proofs.Enough.{buffer_long, enough_for_shares}
use Rattle.shares_sheet.proofs.input.Goals as goal

pub returns : goal.returns
returns c = enough_for_shares (length c.file_buffer.result) (buffer_long c.file_buffer.result c.file_buffer.ensures)
