-- The invariant of the loop of `path_to`.
use Rattle.std.proofs.Common.{◌≡◌, map, take}
use Rattle.device_links.specs.declared.walk.Frame.{Frame}
use Rattle.device_links.proofs.walk.path_to.Given as goal

abbrev pub invariant-loop-frame : goal.invariant-loop-frame
invariant-loop-frame l = l.path.items ≡ map (λ (f : Frame). f.device) (take l.frame-index l.frames)
