use Rattle.hujson_read.proofs.Alone.{text_is_spelled, standard_of-text_of, fault_of-text_of}
use Rattle.hujson_read.proofs.spelling_law.Goals as goal

pub returns : goal.returns
returns c = record { tokens = text_is_spelled; standard = standard_of-text_of; fault = fault_of-text_of }
