-- `is_lawful_config` meets its contract: the callees' answers, put together.
use Rattle.script.proofs.values.is_lawful_config.Goals as goal

pub returns : goal.returns
returns c = rw (c.up_to-5.ensures, c.up_to-4.ensures, c.up_to-3.ensures, c.up_to-2.ensures, c.up_to.ensures)
