-- What follows from the sample rate is fixed when an engine is made: no act changes it, and so no call.
use mathlib.Core.Path.{◌≡◌, refl, sym, ap, ◌∙◌}
use mathlib.Core.List.{List, [], ◌∷◌}
use Rattle.state.specs.declared.Engine.{Engine}
use Rattle.engine_changes.specs.Changes.{retired_all}
use Rattle.engine_samples.proofs.Untouched.{born-keeps}
use Rattle.frame.specs.Call.{renewed_of}
use Rattle.engine_laws.specs.Acts.{Act, birth, retire, retire_bound, retune, frame, source, streams, next, clock, weights, settings, act, perform, Call, acts_of, applied}
use Rattle.engine_laws.proofs.Performed.{calls_are_acts}

prepared-act : (e : Engine) (a : Act) → (act e a).prepared ≡ e.prepared
unfolding act retired_all renewed_of
prepared-act e (birth index own) = born-keeps (λ (x : Engine). x.prepared) (λ e ps n t. refl) e index own
prepared-act e retire = refl
prepared-act e (retire_bound slot) = refl
prepared-act e (retune slot hz) = refl
prepared-act e (frame seconds) = refl
prepared-act e (source slot s) = refl
prepared-act e (streams ss) = refl
prepared-act e (next n) = refl
prepared-act e (clock k) = refl
prepared-act e (weights ws) = refl
prepared-act e (settings c) = refl

prepared_performed : (e : Engine) (acts : List Act) → (perform e acts).prepared ≡ e.prepared
unfolding perform
prepared_performed e [] = refl
prepared_performed e (a ∷ rest) = prepared_performed (act e a) rest ∙ prepared-act e a

pub prepared-applied : (e : Engine) (c : Call) → (applied e c).prepared ≡ e.prepared
prepared-applied e c = ap (λ (x : Engine). x.prepared) (sym (calls_are_acts e c)) ∙ prepared_performed e (acts_of e c)
