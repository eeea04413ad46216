-- The buffer has more bytes than a file may have.
use lib.ListN.{length}
use Rattle.text.proofs.Enough.{buffer_long}
use Rattle.list_writer.proofs.Enough.{enough_of_a_file}
use Rattle.list_writer.proofs.file_input.Goals as goal

pub returns : goal.returns
returns c = enough_of_a_file (length c.file_buffer.result) (buffer_long c.file_buffer.result c.file_buffer.ensures)
