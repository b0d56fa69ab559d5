use Rattle.ms_model.proofs.Reflecting.{fit_same}
use Rattle.ms_model.proofs.checking.Checker.fits.Goals as goal

pub returns : goal.returns
returns c = λ o h r. fit_same o h c.args.self.now c.args.seg _ c.requires.within c.requires.table r c.is_fit.ensures
