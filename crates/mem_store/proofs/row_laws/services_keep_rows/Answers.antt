use Rattle.mem_store.proofs.{Cores.core_keeps, Notifies.notify_keeps, Reinstalls.reinstall_keeps}
use Rattle.mem_store.proofs.Services.{boot_mode_keeps, desc_keeps, hob_keeps, install_keeps, move_keeps, pages_keep, pool_keeps, pop_keeps, set_memory_keeps, store_keeps}
use Rattle.mem_store.proofs.row_laws.services_keep_rows.Goals as goal

pub returns : goal.returns
returns c =
    let stay = c.bodies_stay.ensures in
    record {
      pool = pool_keeps stay;
      store = store_keeps stay;
      desc = desc_keeps stay;
      install = install_keeps stay;
      reinstall = reinstall_keeps stay c.steps_keep_facts.ensures;
      notify = notify_keeps stay;
      core_install = core_keeps stay c.services_keep_facts.ensures;
      queue_pop = λ s state. pop_keeps stay s s.pendings state state.pendings;
      create_hob = hob_keeps stay;
      set_memory = set_memory_keeps;
      pages = pages_keep stay;
      boot_mode = boot_mode_keeps;
      move = move_keeps stay;
    }
