use Rattle.image_file.proofs.FromBytes.{same_words}
use Rattle.image_file.proofs.laws.bytes_name_words.Goals as goal

pub returns : goal.returns
returns c = same_words
