-- The one state that a plain store stands for: its own lists and numbers.
-- Own.
use Rattle.std.specs.Prelude.{◌≡◌, option_map}
use Rattle.store_plain.specs.declared.store.PlainStore.{PlainStore}
use Rattle.store_model.specs.{StoreState.StoreState, StoreState.range_of, StateFacts.IsStoreState}

abbrev pub state_of : PlainStore → StoreState
state_of p = record {
  board = record { temp = range_of p.temp; pages = p.region; ram = range_of p.ram; roms = p.roms };
  hobs = p.hobs.items;
  ppis = p.ppis.items;
  callbacks = p.callbacks.items;
  dispatches = p.dispatches.items;
  pendings = p.pendings.items;
  base = p.base;
  len = p.len;
  page_end = p.page_end;
  taken = p.taken;
  boot_mode = p.boot_mode;
  planned = option_map range_of p.planned;
  moved = p.moved;
}

abbrev pub stands_for : PlainStore → StoreState → Type 0
stands_for p s = (s ≡ state_of p) × IsStoreState s
