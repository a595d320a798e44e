use Rattle.std.proofs.Common.{◌≡◌, take}
use Rattle.tools_core.proofs.told_tool.copied.Given as goal

abbrev pub invariant-images : goal.invariant-images
invariant-images l = l.copies ≡ take l.image-index l.images
