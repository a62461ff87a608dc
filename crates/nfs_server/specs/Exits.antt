-- How the program ends, and with which status.
use Rattle.std.specs.Prelude.{ℕ}
use Rattle.clap.specs.Words.{kind_of}
use Rattle.clap.specs.declared.error.Error.{Error}
use Rattle.clap.specs.declared.error.kind.ErrorKind.{ErrorKind}
use Rattle.clap.specs.declared.error.kind.ErrorKind.TheVariants as kind
use Rattle.nfs_machine.specs.declared.exports.ExportError.{ExportError}
use Rattle.nfs_machine.specs.declared.exports.ExportError.TheVariants as export
use Rattle.nfs_server.specs.declared.callbacks.CallbackError.{CallbackError}
use Rattle.nfs_server.specs.declared.callbacks.CallbackError.TheVariants as callback
use Rattle.nfs_server.specs.declared.exit.Exit.{Exit}
use Rattle.nfs_server.specs.declared.exit.Exit.TheVariants.{CommandLine, NoTransport, Exports, Callback, Memory}
use Rattle.nfs_server.specs.declared.exit.Exit.TheVariants.{StandardStream}
use Rattle.nfs_streams.specs.declared.serving.StreamFault.{StreamFault}
use Rattle.nfs_streams.specs.declared.serving.StreamFault.TheVariants as stream

-- what ends a stream early ends the program
abbrev pub exit_of : StreamFault → Exit
exit_of stream.Memory = Memory
exit_of _ = StandardStream

abbrev pub exit_of_kind : ErrorKind → Error → Exit
exit_of_kind kind.OutOfMemory e = Memory
exit_of_kind _ e = CommandLine e

-- a command line that gives no matches
abbrev pub exit_of_command : Error → Exit
exit_of_command e = exit_of_kind (kind_of e) e

-- exports that are refused
abbrev pub exit_of_exports : ExportError → Exit
exit_of_exports export.Memory = Memory
exit_of_exports e = Exports e

-- callbacks that are refused
abbrev pub exit_of_callbacks : CallbackError → Exit
exit_of_callbacks callback.Memory = Memory
exit_of_callbacks (callback.BadForm number) = Callback number

-- to ask for help or for the version is no mistake
abbrev pub command_status : ErrorKind → ℕ
command_status kind.DisplayHelp = 0
command_status kind.DisplayVersion = 0
command_status _ = 2

abbrev pub status_of : Exit → ℕ
status_of (CommandLine e) = command_status (kind_of e)
status_of NoTransport = 2
status_of _ = 1
