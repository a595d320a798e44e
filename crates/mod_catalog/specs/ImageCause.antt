-- The causes of an image, from those of its volumes, sections and scripts.
use Rattle.fv_volume.specs.{declared.fault.VolCause.VolCause, declared.sections.fault.SecCause.SecCause}
use Rattle.fv_volume.specs.declared.fault.VolCause.TheVariants as V
use Rattle.fv_volume.specs.declared.sections.fault.SecCause.TheVariants as S
use Rattle.act_code.specs.declared.fault.ActCause.{ActCause}
use Rattle.act_code.specs.declared.fault.ActCause.TheVariants as A
use Rattle.mod_catalog.specs.declared.image_fault.ImageCause.{ImageCause}
use Rattle.mod_catalog.specs.declared.image_fault.ImageCause.TheVariants as I

-- the cause of an image by that of a volume
abbrev pub volume_cause : VolCause → ImageCause
volume_cause V.Short = I.Short
volume_cause V.Signature = I.Signature
volume_cause V.Revision = I.Revision
volume_cause V.FileSystem = I.FileSystem
volume_cause V.Length = I.Length
volume_cause V.HeaderLength = I.HeaderLength
volume_cause V.HeaderSum = I.HeaderSum
volume_cause V.ExtHeader = I.ExtHeader
volume_cause V.FileSum = I.FileSum
volume_cause V.FileSize = I.FileSize
volume_cause V.DataSum = I.DataSum
volume_cause V.TooManyFiles = I.TooManyFiles
volume_cause V.Memory = I.Memory

-- by that of a section
abbrev pub section_cause : SecCause → ImageCause
section_cause S.Size = I.Size
section_cause S.Compressed = I.Compressed
section_cause S.GuidDefined = I.GuidDefined
section_cause S.TooMany = I.TooMany
section_cause S.Memory = I.Memory

-- and by that of a script
abbrev pub script_cause : ActCause → ImageCause
script_cause A.Magic = I.Magic
script_cause A.Version = I.Version
script_cause A.Phase = I.Phase
script_cause A.Count = I.Count
script_cause A.Block = I.Block
script_cause A.Action = I.Action
script_cause A.Jump = I.Jump
script_cause A.Index = I.Index
script_cause A.Memory = I.Memory
