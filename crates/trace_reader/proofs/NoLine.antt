-- Bytes that are a line of none of the forms are no line.
use Rattle.std.proofs.Common.{List, ℕ}
use Rattle.boot_model.specs.declared.line.Line.{Line}
use Rattle.boot_model.specs.declared.line.Line.TheVariants as L
use Rattle.trace_reader.specs.Readable.{IsLineOf}
use Rattle.trace_reader.specs.Lacking.{LacksPlainLines, LacksHobLines, LacksFileLines}

pub no_line : (bytes : List ℕ) → LacksPlainLines bytes → LacksHobLines bytes → LacksFileLines bytes → (line : Line) → IsLineOf bytes line → ⊥
no_line bytes plain hob file (L.Report volume) is = plain.starts.report volume is
no_line bytes plain hob file (L.DxeVolume volume) is = plain.starts.dxe_volume volume is
no_line bytes plain hob file (L.PeiStart volume name licence) is = plain.starts.pei_start volume name licence is
no_line bytes plain hob file (L.DxeStart volume name licence) is = plain.starts.dxe_start volume name licence is
no_line bytes plain hob file (L.NotifyCallback volume name fired) is = plain.notifies.callback volume name fired is
no_line bytes plain hob file (L.NotifyDispatch volume name fired) is = plain.notifies.dispatch volume name fired is
no_line bytes plain hob file (L.NotifyProtocol volume name fired) is = plain.notifies.protocol volume name fired is
no_line bytes plain hob file (L.End status) is = plain.ends.frame status is
no_line bytes plain hob file L.PeiStop is = plain.ends.pei_stop is
no_line bytes plain hob file L.DxeStop is = plain.ends.dxe_stop is
no_line bytes plain hob file (L.Waiting volume name reason) is = plain.ends.waiting volume name reason is
no_line bytes plain hob file (L.Handoff address) is = plain.ends.handoff address is
no_line bytes plain hob file (L.Result outcome) is = plain.ends.outcome outcome is
no_line bytes plain hob file (L.Migrate from to) is = plain.moves.migrate from to is
no_line bytes plain hob file (L.CoreInstall status) is = plain.moves.core_install status is
no_line bytes plain hob file (L.Ppis count) is = plain.counts.ppis count is
no_line bytes plain hob file (L.Callbacks count) is = plain.counts.callbacks count is
no_line bytes plain hob file (L.Dispatches count) is = plain.counts.dispatches count is
no_line bytes plain hob file (L.Pendings count) is = plain.counts.pendings count is
no_line bytes plain hob file (L.Hobs count) is = plain.counts.hobs count is
no_line bytes plain hob file (L.Handles count) is = plain.counts.handles count is
no_line bytes plain hob file (L.Ppi by guid value) is = plain.entries.ppi by guid value is
no_line bytes plain hob file (L.Callback guid by block) is = plain.entries.callback guid by block is
no_line bytes plain hob file (L.Dispatch guid by block) is = plain.entries.dispatch guid by block is
no_line bytes plain hob file (L.Pending guid by block) is = plain.entries.pending guid by block is
no_line bytes plain hob file (L.Handle handle guid value) is = plain.entries.handle handle guid value is
no_line bytes plain hob file (L.Volume volume base len name) is = plain.audits.volume volume base len name is
no_line bytes plain hob file (L.Module by volume name kind pei_rank dxe_rank pei dxe) is = plain.audits.part by volume name kind pei_rank dxe_rank pei dxe is
no_line bytes plain hob file L.RefusedUsage is = plain.refusals.usage is
no_line bytes plain hob file (L.RefusedPlan line cause) is = plain.refusals.plan line cause is
no_line bytes plain hob file (L.RefusedImage volume at cause) is = plain.refusals.image volume at cause is
no_line bytes plain hob file (L.Call name status extra) is = plain.calls name status extra is
no_line bytes plain hob file (L.Log text) is = plain.logs text is
no_line bytes plain hob file (L.Hob kind body) is = hob kind body is
no_line bytes plain hob file (L.RefusedFile name) is = file.file name is
no_line bytes plain hob file (L.RefusedLong name) is = file.long name is
