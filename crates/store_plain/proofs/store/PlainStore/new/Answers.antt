use Rattle.store_model.specs.StoreState.{range_of}
use Rattle.store_laws.proofs.Services.{all_keep}
use Rattle.store_plain.proofs.store.PlainStore.new.Goals as goal

pub returns-clause-facts : goal.returns-clause-facts
returns-clause-facts c = all_keep.first (record { temp = range_of c.args.temp; pages = c.args.pages; ram = range_of c.args.ram; roms = c.args.roms }) c.requires
