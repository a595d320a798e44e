-- The program's HOBs as values.
use Rattle.hob_codec.specs.declared.hob.Hob.{Hob}
use Rattle.hob_codec.specs.declared.hob.Hob.TheVariants as kept
use Rattle.hob_codec.specs.HobValue.{HobValue, HandoffHob, AllocationHob, ResourceHob, NamedHob, VolumeHob, CpuHob, PoolHob, Volume2Hob, OtherHob}

abbrev pub hob_value : Hob → HobValue
hob_value (kept.Handoff handoff) = HandoffHob handoff
hob_value (kept.Allocation name base length memory_type) = AllocationHob name.0 base length memory_type
hob_value (kept.Resource owner kind attributes start length) = ResourceHob owner.0 kind attributes start length
hob_value (kept.Named name body) = NamedHob name.0 body.now
hob_value (kept.Volume base length) = VolumeHob base length
hob_value (kept.Cpu memory io) = CpuHob memory io
hob_value (kept.Pool body) = PoolHob body.now
hob_value (kept.Volume2 base length volume file) = Volume2Hob base length volume.0 file.0
hob_value (kept.Other kind body) = OtherHob kind body.now
