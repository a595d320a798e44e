use Rattle.boot_laws.proofs.GroupRoots as Law
use Rattle.boot_laws.proofs.free_dxe.names_lead_to_root.Goals as goal

pub returns : goal.returns
returns c = Law.names_lead
