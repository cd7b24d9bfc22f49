use Rattle.index_file.proofs.Readings.{list_once, no_list, place_once}
use Rattle.index_file.proofs.laws.have_one_reading.Goals as goal

pub returns : goal.returns
returns c = record { list = list_once; none = no_list; place = place_once }
