-- Callbacks as a command line names them: HOST=ADDR:PORT.
use Rattle.std.specs.Prelude.{◌≡◌, ◌≢◌, ◌<◌, ◌+◌, ℕ, List, [], ◌∷◌, ◌++◌, length}
use Rattle.std.specs.Prelude.{get_or}
use Rattle.std.specs.Prelude.{Option, reverse}
use Rattle.std.specs.List.{find, position}
use Rattle.std.specs.Net.Grammar.{IsSocketText}
use Rattle.nfs_machine.specs.Bytes.{same_bytes}
use Rattle.nfs_engine.specs.Hosts.{IsHost}
use Rattle.nfs_server.specs.declared.callbacks.CallbackAddress.{CallbackAddress}
use Rattle.nfs_server.specs.declared.callbacks.CallbackError.{CallbackError}
use Rattle.nfs_server.specs.declared.callbacks.CallbackError.TheVariants.{BadForm, Memory}

-- "="
abbrev pub equals : ℕ
equals = 61

-- the text is HOST=ADDR:PORT; the host ends at the first "="
pub record IsCallback (text : List ℕ) (callback : CallbackAddress) : Type 0 where
  pub address_text : List ℕ
  pub spelled : text ≡ callback.host ++ equals ∷ address_text
  pub ends : (i : ℕ) → i < length callback.host → get_or callback.host i 0 ≢ equals
  pub host : IsHost callback.host
  pub address : IsSocketText address_text callback.address

abbrev pub IsNoCallback : List ℕ → Type 0
IsNoCallback text = (callback : CallbackAddress) → IsCallback text callback → ⊥

-- each text is the callback at its place
abbrev pub AreCallbacks : List (List ℕ) → List CallbackAddress → Type 0
AreCallbacks [] [] = Unit {0}
AreCallbacks (text ∷ texts) (callback ∷ callbacks) = IsCallback text callback × AreCallbacks texts callbacks
AreCallbacks _ _ = ⊥

-- the text with this number, from 1, is the first that is no callback
pub record IsFirstBad (texts : List (List ℕ)) (number : ℕ) : Type 0 where
  pub front : List (List ℕ)
  pub text : List ℕ
  pub back : List (List ℕ)
  pub whole : texts ≡ front ++ text ∷ back
  pub numbered : number ≡ length front + 1
  pub before : (callbacks : List CallbackAddress) × AreCallbacks front callbacks
  pub bad : IsNoCallback text

-- why texts give no callbacks
abbrev pub RefusesCallbacks : List (List ℕ) → CallbackError → Type 0
RefusesCallbacks texts (BadForm number) = IsFirstBad texts number
RefusesCallbacks texts Memory = Unit {0}

-- the last callback of a host
abbrev pub callback_of : List CallbackAddress → List ℕ → Option CallbackAddress
callback_of callbacks host = find (λ callback. same_bytes callback.host host) (reverse callbacks)

-- how many callbacks stand behind the last one of a host
abbrev pub behind_host : List CallbackAddress → List ℕ → Option ℕ
behind_host callbacks host = position (λ callback. same_bytes callback.host host) (reverse callbacks)
