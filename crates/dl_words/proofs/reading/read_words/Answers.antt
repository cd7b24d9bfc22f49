use Rattle.std.proofs.Common.{map}
use Rattle.std.specs.Prelude.{string_bytes}
use Rattle.dl_words.proofs.Read.{found_of, all_of, refused_of}
use Rattle.dl_words.proofs.reading.read_words.Goals as goal

pub returns-clause-found : goal.returns-clause-found
returns-clause-found c = found_of (map string_bytes c.args.words.now) c.read_all.result c.read_all.ensures

pub returns-clause-all : goal.returns-clause-all
returns-clause-all c = all_of (map string_bytes c.args.words.now) c.read_all.result c.read_all.ensures

pub returns-clause-refused : goal.returns-clause-refused
returns-clause-refused c = refused_of (map string_bytes c.args.words.now) c.read_all.result c.read_all.ensures
