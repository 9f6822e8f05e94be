-- Every definition opened at once, so that worked examples compute.
use Rattle.words.specs.Below as Below
use Rattle.words.specs.Lists as Lists
use Rattle.words.specs.Rules as Rules
use Rattle.words.specs.Runs as Runs
use Rattle.words.specs.Fields as Fields
use Rattle.meaning.specs.Time as Time
use Rattle.meaning.specs.Authorisations as Authorisations
use Rattle.meaning.specs.Ledgers as Ledgers
use Rattle.meaning.specs.Messages as Messages
use Rattle.meaning.specs.Books as Books
use Rattle.meaning.specs.Soundness as Soundness
use Rattle.meaning.specs.Notifications as Notifications
use Rattle.meaning.specs.Calls as Calls
use Rattle.meaning.specs.History as History
use Rattle.meaning.specs.Totals as Totals
use Rattle.meaning.specs.Bars as Bars
use Rattle.meaning.specs.Rows as Rows
use Rattle.meaning.specs.PackedMessages as PackedMessages
use Rattle.meaning.specs.PackedCalls as PackedCalls
use Rattle.meaning.specs.PackedSetups as PackedSetups

unfoldable pub opened : Unit {0}
unfolding Below.some_below Below.every_below Below.first_below Below.sum_below Below.sum_belowℤ Lists.any Lists.every Lists.every_from Lists.map_from Lists.every_at Lists.map_at Lists.build Lists.keep Lists.last Lists.find Rules.answer Rules.place Runs.run Runs.trace Runs.decided Fields.bit_at Fields.field_at Fields.with_bit Fields.set_bit Fields.set_field Fields.signed_of Fields.bits_of Time.periods_of_code Time.periods_at Time.is_period_at Time.gates_before Time.is_open_at Time.is_period Time.every_gate_closed Time.current_day Time.with_gate_closed Authorisations.row_wrong Authorisations.is_pair Ledgers.index Ledgers.slot_at Ledgers.day_at Ledgers.period_at Ledgers.at Ledgers.originator_of Ledgers.reference_of Ledgers.is_held Ledgers.slot_for Ledgers.empty_ledger Messages.writes Messages.about Messages.from Messages.leaves Messages.source_of Messages.volume Messages.volume_on Messages.says Messages.reaches Messages.rewritten Messages.held_after Messages.written Books.counts_wrong Books.last_day_wrong Books.code_wrong Books.lent_wrong Books.some_row_wrong Books.opening_rules Books.opened_book Soundness.slot_right Soundness.held_right Soundness.place_right Soundness.table_right Soundness.sound Notifications.key_or_agent_wrong Notifications.originator_right Notifications.highest_period Notifications.entry_at Notifications.period_before Notifications.period_offends Notifications.volume_offends Notifications.some_entry Notifications.first_entry Notifications.states_at Notifications.states_on Notifications.states_open_on Notifications.is_replacement Notifications.is_other Notifications.overlaps Notifications.is_additional Notifications.kind_of Notifications.notification_rules Notifications.notified Calls.accounts_wrong Calls.gate_rules Calls.nullification_rules Calls.rules_for Calls.accepted Calls.act History.concerns History.gives History.decides History.standing History.after History.events_of Totals.matches Totals.seen_by Totals.counted Totals.sum_of Totals.total_rules Totals.total Totals.mwh Totals.day_sum Totals.sold Totals.bought Totals.figures_rules Totals.figures Bars.bar_of Bars.mark_rules Bars.seen_bar Bars.mark Rows.row_rules Rows.row PackedMessages.layout_for PackedMessages.entry_values PackedMessages.entries_from PackedMessages.values_of PackedMessages.notification_from PackedMessages.message_from PackedMessages.count_in PackedMessages.layout_in PackedMessages.reading_rules PackedMessages.read_message PackedMessages.layout_of PackedMessages.value_wrong PackedMessages.writing_rules PackedMessages.packed_into PackedMessages.write_message PackedCalls.calls_of PackedCalls.message_rules PackedCalls.kind_given PackedCalls.slot_given PackedCalls.apply_rules PackedCalls.applied PackedCalls.stepped PackedCalls.applied_all PackedCalls.run_answer PackedCalls.run_on PackedSetups.setup_layout_for PackedSetups.row_values PackedSetups.setup_values PackedSetups.rows_from PackedSetups.setup_from PackedSetups.setup_layout_in PackedSetups.setup_in PackedSetups.setup_reading_rules PackedSetups.read_setup PackedSetups.setup_layout PackedSetups.setup_writing_rules PackedSetups.write_setup
opened = tt
