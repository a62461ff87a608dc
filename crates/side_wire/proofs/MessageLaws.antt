-- A callback's arguments are those of a call.
use Rattle.std.proofs.Common.{refl}
use Rattle.side_wire.specs.Messages.{CallbacksAreCalls}
use Rattle.side_wire.specs.declared.message.Callback.TheVariants.{Granted, GrantedMsg, TestRes, LockRes, CancelRes}
use Rattle.side_wire.specs.declared.message.Callback.TheVariants.{UnlockRes, GrantedRes}

pub callbacks_are_calls : CallbacksAreCalls
callbacks_are_calls (Granted a) = refl
callbacks_are_calls (GrantedMsg a) = refl
callbacks_are_calls (TestRes r) = refl
callbacks_are_calls (LockRes r) = refl
callbacks_are_calls (CancelRes r) = refl
callbacks_are_calls (UnlockRes r) = refl
callbacks_are_calls (GrantedRes r) = refl
