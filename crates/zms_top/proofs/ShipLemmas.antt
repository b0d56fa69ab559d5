-- How the lanes' end is reported.
use Rattle.std.proofs.Common.{◌≡◌, Result, Ok, Err, ap}
use Rattle.std.specs.Prelude.{OnErr, IsErr}
use Rattle.zms_dev.specs.declared.failed.Failed.{Failed}
use Rattle.zms_dev.specs.Stream.{SinkState}

-- a sink that stays as it is shows the same
pub stops_by : {T : Type 0} (shows : T → SinkState) (old now : T) (printed written : Result (Unit {0}) Failed)
    → OnErr printed ((now ≡ old) × IsErr written) → OnErr printed ((shows now ≡ shows old) × IsErr written)
stops_by shows old now (Ok _) written stops = tt
stops_by shows old now (Err _) written stops = (ap shows stops.0, stops.1)
