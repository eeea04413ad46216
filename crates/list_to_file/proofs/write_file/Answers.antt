-- The file is within its buffer: so list_text says of what it hands back.
use Rattle.list_text.proofs.Filings.{filed_within}
use Rattle.list_to_file.proofs.write_file.Goals as goal

pub returns-in-Ok-clause-within : goal.returns-in-Ok-clause-within
returns-in-Ok-clause-within c = filed_within _ _ _ _ c.in-Ok.ensures.0 c.in-Ok.ensures.1
