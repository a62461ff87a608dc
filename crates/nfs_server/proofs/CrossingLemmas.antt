-- What threads of the network are given may go to another thread: a pool and its seats, and what has them.
use denote.RattleType.{RattleType}
use denote.Param.Send.{IsSend, IsSync, sendable}
use denote.Param.SendFields.{declared_send}
use Rattle.std.proofs.Crossing.{crosses}
use Rattle.std.specs.declared.sync.ledger.Ledger.{Ghosts}
use Rattle.crossbeam_channel.proofs.channel.Receiver.TheSendSync as receiver
use Rattle.crossbeam_channel.proofs.channel.Sender.TheSendSync as sender
use Rattle.nfs_pool.proofs.CrossingLemmas.{pool_send, pool_sync}
use Rattle.nfs_pool.proofs.seat.Seat.TheSendSync as seat
use Rattle.nfs_stamps.specs.declared.log.Naming as naming
use Rattle.nfs_server.proofs.callbacks.Callbacks.TheSendSync as callbacks
use Rattle.nfs_server.proofs.clock.Latest.TheSendSync as latest
use Rattle.nfs_server.proofs.clock.ServerClock.TheSendSync as clock
use Rattle.nfs_server.proofs.network.wakeup.Wakeup.TheSendSync as wakeup
use Rattle.nfs_server.proofs.network.counters.Counters.TheSendSync as counters
use Rattle.nfs_server.proofs.network.drain.Drain.TheSendSync as drain
use Rattle.nfs_server.proofs.network.failures.Failures.TheSendSync as failures
use Rattle.nfs_server.proofs.network.jobs.Job.TheSendSync as job
use Rattle.nfs_server.proofs.network.listings.Listings.TheSendSync as listings
use Rattle.nfs_server.proofs.network.peer.PeerLink.TheSendSync as link
use Rattle.nfs_server.proofs.network.mailbox.Mailbox.TheSendSync as mailbox
use Rattle.nfs_server.proofs.network.permits.Gathering.TheSendSync as gathering
use Rattle.nfs_server.specs.contracts.network.dispatcher.Dispatcher as Dispatcher
use Rattle.nfs_server.specs.contracts.network.listening.Service as Service
use Rattle.nfs_server.specs.contracts.network.permits.Permit as Permit
use Rattle.nfs_server.specs.contracts.network.permits.Permits as Permits
use Rattle.nfs_server.specs.contracts.network.reading.ConnectionThread as ConnectionThread
use Rattle.nfs_server.specs.contracts.network.sending.CallbackThread as CallbackThread
use Rattle.nfs_server.specs.contracts.network.sorting.Sorter as Sorter

module _ (L : RattleType) (g : Ghosts L.Denot) (n : naming.Ghosts L.Denot) (s : IsSend L) (y : IsSync L) where
  permit_send : IsSend (Permit.the_row L g n)
  permit_send =
      let sends = pool_send L g n s y in let syncs = pool_sync L g n s y in
      search (sendable, crosses, seat.the_send) depth 20

  pub permits_send : IsSend (Permits.the_row L g n)
  permits_send =
      let permit = permit_send in
      search (
        sendable,
        crosses,
        sender.the_send,
        receiver.the_send,
        gathering.the_send,
        gathering.the_sync,
        drain.the_send,
        drain.the_sync,
      ) depth 20

  pub service_send : IsSend (Service.the_row L g n)
  service_send =
      declared_send (Service.the_type L g n) (
        permits_send,
        (
          search (sendable, crosses, sender.the_send, job.the_send) depth 20,
          (
            search (sendable, crosses, wakeup.the_send, wakeup.the_sync) depth 20,
            (
              search (sendable, crosses, counters.the_send, counters.the_sync) depth 20,
              (
                search (sendable, crosses, listings.the_send, listings.the_sync) depth 20,
                (
                  search sendable depth 20,
                  (search (sendable, crosses, latest.the_send, latest.the_sync) depth 20, tt),
                ),
              ),
            ),
          ),
        ),
      )

  pub dispatcher_send : (C : RattleType) → IsSend C → IsSend (Dispatcher.the_row L C g n)
  dispatcher_send C c =
      declared_send (Dispatcher.the_type L C g n) (
        permits_send,
        (
          search (sendable, crosses, wakeup.the_send, wakeup.the_sync) depth 20,
          (
            search (sendable, crosses, counters.the_send, counters.the_sync) depth 20,
            (search (sendable, clock.the_send) depth 20, (search sendable depth 20, tt)),
          ),
        ),
      )

  pub reader_send : (C P : RattleType) → IsSend C → IsSend P → IsSend (ConnectionThread.the_row L C P g n)
  reader_send C P c p =
      declared_send (ConnectionThread.the_type L C P g n)
      (search (sendable, crosses, link.the_send) depth 20, (dispatcher_send C c, tt))

  pub sender_send : (C : RattleType) → IsSend C → IsSend (CallbackThread.the_row L C g n)
  sender_send C c =
      declared_send (CallbackThread.the_type L C g n) (
        dispatcher_send C c,
        (
          search (sendable, crosses, callbacks.the_send, callbacks.the_sync) depth 20,
          (
            search (sendable, crosses, mailbox.the_send, mailbox.the_sync) depth 20,
            (search (sendable, crosses, failures.the_send) depth 20, tt),
          ),
        ),
      )

  pub sorter_send : (C : RattleType) → IsSend C → IsSend (Sorter.the_row L C g n)
  sorter_send C c =
      declared_send (Sorter.the_type L C g n) (
        dispatcher_send C c,
        (
          search (sendable, crosses, callbacks.the_send, callbacks.the_sync) depth 20,
          (search (sendable, crosses, mailbox.the_send, mailbox.the_sync) depth 20, tt),
        ),
      )
