use Rattle.std.proofs.Common.{ap, sym}
use Rattle.mod_catalog.specs.ReadFile.{is_file}
use Rattle.mod_catalog.proofs.a_priori.is_file.Goals as goal

pub returns-in-Some : goal.returns-in-Some
returns-in-Some c = ap (λ found. is_file found c.args.file.now) (sym c.in-Some.is)
