mod Loading
