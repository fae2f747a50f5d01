use Rattle.sim_run.proofs.MadeRead as made
use Rattle.sim_run.proofs.made_script.made_text_is_read.Goals as goal

pub returns : goal.returns
returns c = made.made_is_read
