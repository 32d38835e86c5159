mod BankLemmas
