-- Proof by hand of `ByKind::of`: what it returns, each kind of thing by what was made of its names.
use Rattle.log_text.proofs.reading.names.ByKind.of.Goals as goal

pub returns : goal.returns
returns g c = record {
  devices = c.in_ok-devices.ensures _ (rw (← c.as_slice.ensures) c.names_of_devices.ensures);
  syscore = c.in_ok-syscore.ensures _ (rw (← c.as_slice-2.ensures) c.names_of.ensures);
  notifiers = c.in_ok-notifiers.ensures _ (rw (← c.as_slice-3.ensures) c.names_of_notifiers.ensures);
  sources = c.in_ok-sources.ensures _ (rw (← c.as_slice-4.ensures) c.names_of_sources.ensures);
  marks = c.in_ok-marks.ensures _ (rw (← c.as_slice-5.ensures) c.names_of-2.ensures);
  scripts = c.in_ok-scripts.ensures _ (rw (← c.as_slice-6.ensures) c.names_of_scripts.ensures);
}
